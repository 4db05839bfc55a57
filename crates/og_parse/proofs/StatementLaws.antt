-- The laws of reading statements, level by level.
use Rattle.std.proofs.Common.{◌≡◌, ℕ, zero, suc, ◌≤◌, ◌<◌, Bool, true, false, List, [], ◌∷◌, Ok, refl, arith}
use Rattle.og_text.specs.Kinds.{number_of}
use Rattle.og_text.specs.declared.token.TokenKind.TheVariants as kinds
use Rattle.og_text.specs.declared.token.Token.{Token}
use Rattle.og_parse.specs.Language.{Language, Either, Separated, IfSymbol}
use Rattle.og_parse.specs.Fronts.{Begins}
use Rattle.og_parse.specs.Reading.{Reader, ◌>>=◌, nothing, is_a, or, symbol_at, if_symbol_at}
use Rattle.og_parse.proofs.Languages.{Laws, Starts, symbol_some}
use Rattle.og_parse.proofs.More.{starts_nothing, starts_or, starts_neither, symbol_starts, then_starts, then_avoids, either_avoids, map_some, then_some}
use Rattle.og_parse.proofs.Bundle.{Reads, Way, open_way, shut_way, no_way, way_reads, way_starts, shut_closed, weaken, starts_also, or_left, or_right, or_fails, or_apart, is_a_fails, either_starts, allowed_starts, with_place_starts, avoids_by, symbol_avoids, symbol_reads, then_reads, next_reads, map_reads, either_reads, allowed_reads, many_reads, separated_reads, if_symbol_reads, with_place_reads, symbol_goes, either_goes}
use Rattle.og_parse.proofs.Loops.{Shortens, shortens_by}
use Rattle.og_parse.specs.Trees.{Skip, Assign, Stmt, Simple, While, Await, choice, sequence, Seq}
use Rattle.og_parse.specs.Grammar.{IsAssignment, IsBasic, IsElement, IsBody, IsAwait, IsBlock, IsIf, IsWhile, IsStmtWith, IsStepWith, IsSeqWith, compounds, IsSeq}
use Rattle.og_parse.proofs.Productions.{IsSkip, IsSimple, IsRestOfBlock, IsElements}
use Rattle.og_parse.specs.Reads.{a_name, a_compound, a_stmt, skip_at, assignment_at, basic_at, element_at, separated_elements_at, elements_at, body_at, assertion_at, test_at, await_at, rest_of_block_by, block_by, tested_by, if_by, while_by, stmt_by, step_by, seq_by, compound_by, compound_at, seq_at}
use Rattle.og_parse.proofs.Same.{nested, same_reads}
use Rattle.og_parse.proofs.TermLaws.{name_reads, name_starts, sum_reads, after_sum}
use Rattle.og_parse.proofs.AssertionLaws.{after_assertion, assertion_level, note_level, note_starts, not_below}

-- ---- basic, body

skip_reads : {More : Type 0} → Reads More skip_at skip_at IsSkip IsSkip after_sum
unfolding skip_at
skip_reads = map_reads (λ word. Skip) (symbol_reads kinds.Skip refl after_sum)

assignment_reads : {More : Type 0} → Reads More assignment_at assignment_at IsAssignment IsAssignment after_sum
unfolding assignment_at
assignment_reads = next_reads (name_reads nothing) (λ name. next_reads (symbol_reads kinds.Assign refl nothing) (λ at. map_reads (Assign name) sum_reads))

basic_reads : {More : Type 0} → Reads More basic_at basic_at IsBasic IsBasic after_sum
unfolding basic_at
basic_reads = either_reads (is_a kinds.Skip) skip_reads (then_starts (symbol_starts kinds.Skip)) assignment_reads (avoids_by (is_a_fails (kinds.Name []) (is_a kinds.Skip) refl) (then_starts name_starts))

abbrev a_basic : ℕ → Bool
a_basic = or (is_a kinds.Skip) a_name

basic_starts : Starts IsBasic a_basic
basic_starts = either_starts (starts_also (or_left (is_a kinds.Skip) a_name) (then_starts (symbol_starts kinds.Skip))) (starts_also (or_right (is_a kinds.Skip) a_name) (then_starts name_starts))

a_basic_fails : (test : ℕ → Bool) → test (number_of kinds.Skip) ≡ false → test 0 ≡ false → (n : ℕ) → a_basic n ≡ true → test n ≡ false
a_basic_fails test at_skip at_name = or_fails (is_a kinds.Skip) a_name test (is_a_fails kinds.Skip test at_skip) (is_a_fails (kinds.Name []) test at_name)

pub element_reads : {More : Type 0} → Reads More element_at element_at IsElement IsElement after_sum
unfolding element_at
element_reads = with_place_reads basic_starts basic_reads

separated_elements_reads : {More : Type 0} → Reads More separated_elements_at separated_elements_at (Separated kinds.Semicolon IsElement) (Separated kinds.Semicolon IsElement) (or (is_a kinds.Semicolon) after_sum)
unfolding separated_elements_at
separated_elements_reads = separated_reads kinds.Semicolon refl element_reads refl

elements_reads : {More : Type 0} → Reads More elements_at elements_at IsElements IsElements after_sum
unfolding elements_at
elements_reads =
    next_reads (symbol_reads kinds.Begin refl nothing)
    (λ at. then_reads separated_elements_reads (λ all. map_reads (λ at. all) (symbol_reads kinds.End refl after_sum)) (λ all. symbol_avoids kinds.End (or (is_a kinds.Semicolon) after_sum) refl))

body_reads : {More : Type 0} → Reads More body_at body_at IsBody IsBody after_sum
unfolding body_at
body_reads =
    either_reads (is_a kinds.Begin) elements_reads (then_starts (symbol_starts kinds.Begin))
    (map_reads (λ element. element ∷ []) element_reads)
    (avoids_by (a_basic_fails (is_a kinds.Begin) refl refl) (then_starts (with_place_starts basic_starts)))

-- ---- what goes on with a statement, and with a sequence

abbrev pub after_stmt : ℕ → Bool
after_stmt = or (is_a kinds.Else) after_sum

abbrev pub after_seq : ℕ → Bool
after_seq = or a_stmt nothing

-- a part that nothing goes on with
finished : {More : Type 0} {X : Type 0} {read wide : Reader X} {is all : Language X} (longer : ℕ → Bool) → Reads More read wide is all nothing → Reads More read wide is all longer
finished longer r = weaken (λ rest ends. starts_nothing rest) r

simple_reads : {More : Type 0} → Reads More (λ tokens. basic_at tokens >>= λ basic. Ok (Simple basic.0, basic.1)) (λ tokens. basic_at tokens >>= λ basic. Ok (Simple basic.0, basic.1)) IsSimple IsSimple after_stmt
simple_reads = weaken (λ rest ends. (starts_or (is_a kinds.Else) after_sum rest ends).1) (map_reads Simple basic_reads)

-- ---- statements with a test, one part after the other

unfoldable await_steps : ℕ → Reader Stmt
await_steps n tokens = do
  word ← symbol_at kinds.Await tokens
  guard ← assertion_at n word.1
  then_at ← symbol_at kinds.Then guard.1
  body ← body_at then_at.1
  Ok (Await guard.0 body.0, body.1)

await_same : (n : ℕ) (tokens : List Token) → await_steps n tokens ≡ await_at n tokens
unfolding await_steps await_at test_at
await_same n tokens = simp nested

unfoldable if_steps : ℕ → Reader Seq → Reader Stmt
if_steps n seq tokens = do
  word ← symbol_at kinds.If tokens
  test ← assertion_at n word.1
  then_at ← symbol_at kinds.Then test.1
  branch ← block_by seq then_at.1
  other ← if_symbol_at kinds.Else (block_by seq) branch.1
  Ok (choice test.0 branch.0 other.0, other.1)

if_same : (n : ℕ) (seq : Reader Seq) (tokens : List Token) → if_steps n seq tokens ≡ if_by n seq tokens
unfolding if_steps if_by tested_by test_at
if_same n seq tokens = simp nested

unfoldable while_steps : ℕ → Reader Seq → Reader Stmt
while_steps n seq tokens = do
  word ← symbol_at kinds.While tokens
  test ← assertion_at n word.1
  do_at ← symbol_at kinds.Do test.1
  body ← block_by seq do_at.1
  Ok (While test.0 body.0, body.1)

while_same : (n : ℕ) (seq : Reader Seq) (tokens : List Token) → while_steps n seq tokens ≡ while_by n seq tokens
unfolding while_steps while_by tested_by test_at
while_same n seq tokens = simp nested

-- ---- a level, over the statements inside it

module _ {More : Type 0} (n m : ℕ) (le : n ≤ m) (more : More → n < m) where
  await_step_reads : Reads More (await_steps n) (await_steps m) (IsAwait n) (IsAwait m) after_stmt
  unfolding await_steps
  await_step_reads =
      weaken (λ rest ends. (starts_or (is_a kinds.Else) after_sum rest ends).1)
      (next_reads (symbol_reads kinds.Await refl nothing)
      (λ at. then_reads (assertion_level n m le more) (λ guard. next_reads (symbol_reads kinds.Then refl nothing) (λ at. map_reads (Await guard) body_reads)) (λ guard. symbol_avoids kinds.Then after_assertion refl)))

  await_reads : Reads More (await_at n) (await_at m) (IsAwait n) (IsAwait m) after_stmt
  await_reads = same_reads (await_same n) (await_same m) await_step_reads

  module _ {seq wide_seq : Reader Seq} {is all : Language Seq} (inner : Reads More seq wide_seq is all after_seq) where
    pub rest_of_block_reads : Reads More (rest_of_block_by seq) (rest_of_block_by wide_seq) (IsRestOfBlock is) (IsRestOfBlock all) nothing
    unfolding rest_of_block_by
    rest_of_block_reads = then_reads inner (λ s. map_reads (λ at. s) (symbol_reads kinds.End refl nothing)) (λ s. symbol_avoids kinds.End after_seq refl)

    block_reads : Reads More (block_by seq) (block_by wide_seq) (IsBlock is) (IsBlock all) nothing
    unfolding block_by
    block_reads = next_reads (symbol_reads kinds.Begin refl nothing) (λ at. rest_of_block_reads)

    else_reads : Reads More (if_symbol_at kinds.Else (block_by seq)) (if_symbol_at kinds.Else (block_by wide_seq)) (IfSymbol kinds.Else (IsBlock is)) (IfSymbol kinds.Else (IsBlock all)) after_stmt
    else_reads = weaken (λ rest ends. starts_neither (is_a kinds.Else) nothing rest (starts_or (is_a kinds.Else) after_sum rest ends).0 (starts_nothing rest)) (if_symbol_reads kinds.Else refl block_reads)

    if_step_reads : Reads More (if_steps n seq) (if_steps m wide_seq) (IsIf n is) (IsIf m all) after_stmt
    unfolding if_steps
    if_step_reads =
        next_reads (symbol_reads kinds.If refl nothing)
        (λ at. then_reads (assertion_level n m le more)
        (λ test. next_reads (symbol_reads kinds.Then refl nothing) (λ at. next_reads block_reads (λ branch. map_reads (choice test branch) else_reads)))
        (λ test. symbol_avoids kinds.Then after_assertion refl))

    if_reads : Reads More (if_by n seq) (if_by m wide_seq) (IsIf n is) (IsIf m all) after_stmt
    if_reads = same_reads (if_same n seq) (if_same m wide_seq) if_step_reads

    while_step_reads : Reads More (while_steps n seq) (while_steps m wide_seq) (IsWhile n is) (IsWhile m all) after_stmt
    unfolding while_steps
    while_step_reads =
        next_reads (symbol_reads kinds.While refl nothing)
        (λ at. then_reads (assertion_level n m le more)
        (λ test. next_reads (symbol_reads kinds.Do refl nothing) (λ at. map_reads (While test) (finished after_stmt block_reads)))
        (λ test. symbol_avoids kinds.Do after_assertion refl))

    while_reads : Reads More (while_by n seq) (while_by m wide_seq) (IsWhile n is) (IsWhile m all) after_stmt
    while_reads = same_reads (while_same n seq) (while_same m wide_seq) while_step_reads

    compound_reads : Reads More (compound_by n seq) (compound_by m wide_seq) (Either (IsIf n is) (IsWhile n is)) (Either (IsIf m all) (IsWhile m all)) after_stmt
    unfolding compound_by
    compound_reads = either_reads (is_a kinds.If) if_reads (then_starts (symbol_starts kinds.If)) while_reads (symbol_avoids kinds.While (is_a kinds.If) refl)

    if_goes : (token : Token) → is_a kinds.If (number_of token.kind) ≡ true → Begins (IsIf n is) (token ∷ [])
    if_goes =
        let test_some = (assertion_level n m le more).some in
        symbol_goes kinds.If refl (λ at. then_some test_some (λ test. then_some (symbol_some kinds.Then) (λ at. then_some block_reads.some (λ branch. map_some (choice test branch) else_reads.some))))

    while_goes : (token : Token) → is_a kinds.While (number_of token.kind) ≡ true → Begins (IsWhile n is) (token ∷ [])
    while_goes =
        let test_some = (assertion_level n m le more).some in
        symbol_goes kinds.While refl (λ at. then_some test_some (λ test. then_some (symbol_some kinds.Do) (λ at. map_some (While test) block_reads.some)))

    compound_goes : (token : Token) → a_compound (number_of token.kind) ≡ true → Begins (Either (IsIf n is) (IsWhile n is)) (token ∷ [])
    compound_goes = either_goes (is_a kinds.If) (is_a kinds.While) if_goes while_goes

compound_starts : (n : ℕ) (seq : Language Seq) → Starts (Either (IsIf n seq) (IsWhile n seq)) a_compound
compound_starts n seq = either_starts (starts_also (or_left (is_a kinds.If) (is_a kinds.While)) (then_starts (symbol_starts kinds.If))) (starts_also (or_right (is_a kinds.If) (is_a kinds.While)) (then_starts (symbol_starts kinds.While)))

-- ---- statements and sequences, over the ways that open the next level

-- the tests that a statement's first tokens pass
abbrev a_plain : ℕ → Bool
a_plain = or (is_a kinds.Await) a_basic

module _ {More : Type 0} (awaits : Bool) (n m : ℕ) (le : n ≤ m) (more : More → n < m) {compound wide_compound : Reader Stmt} {is all : Language Stmt} (way : Way More a_compound compound wide_compound is all after_stmt) where
  pub stmt_starts : Starts (IsStmtWith m awaits all) a_stmt
  stmt_starts =
      either_starts (starts_also (or_left a_compound a_plain) (way_starts way))
      (starts_also (or_right a_compound a_plain) (either_starts
      (allowed_starts awaits (starts_also (or_left (is_a kinds.Await) a_basic) (then_starts (symbol_starts kinds.Await))))
      (starts_also (or_right (is_a kinds.Await) a_basic) (then_starts basic_starts))))

  stmt_reads : Reads More (stmt_by n awaits compound) (stmt_by m awaits wide_compound) (IsStmtWith n awaits is) (IsStmtWith m awaits all) after_stmt
  unfolding stmt_by
  stmt_reads =
      way_reads a_compound way
      (allowed_reads awaits (is_a kinds.Await) (await_reads n m le more) (then_starts (symbol_starts kinds.Await)) simple_reads (avoids_by (a_basic_fails (is_a kinds.Await) refl refl) (then_starts basic_starts)))
      (either_avoids (avoids_by (is_a_fails kinds.Await a_compound refl) (allowed_starts awaits (then_starts (symbol_starts kinds.Await)))) (avoids_by (a_basic_fails a_compound refl refl) (then_starts basic_starts)))

  pub step_reads : Reads More (step_by n awaits compound) (step_by m awaits wide_compound) (IsStepWith n awaits is) (IsStepWith m awaits all) nothing
  unfolding step_by
  step_reads =
      then_reads (with_place_reads stmt_starts stmt_reads)
      (λ stmt. map_reads (λ after. record { stmt = stmt; after = after }) (note_level n m le more))
      (λ stmt. then_avoids (avoids_by (is_a_fails kinds.OpenBrace after_stmt refl) (note_starts m)))

  pub step_starts : Starts (IsStepWith m awaits all) a_stmt
  step_starts = then_starts (with_place_starts stmt_starts)

  pub seq_reads : Reads More (seq_by n awaits compound) (seq_by m awaits wide_compound) (IsSeqWith n awaits is) (IsSeqWith m awaits all) after_seq
  unfolding seq_by
  seq_reads =
      next_reads (note_level n m le more)
      (λ before. next_reads step_reads (λ first. map_reads (λ others. sequence before (first ∷ others)) (many_reads a_stmt step_reads step_starts (or_apart a_stmt nothing (λ k h. refl)))))

-- ---- every level

compound_way : (awaits : Bool) (k : ℕ) (More : Type 0) (n m j : ℕ) → n ≤ m → (More → n < m) → j ≤ k → (More → j < k) → Way More a_compound (compound_at n awaits j) (compound_at m awaits k) (compounds n awaits j) (compounds m awaits k) after_stmt
compound_way awaits zero More n m zero le more lower deeper = no_way (shut_closed a_compound) (shut_closed a_compound) (λ p. not_below 0 (deeper p))
compound_way awaits zero More n m (suc j) le more lower deeper = absurd (omega arith)
compound_way awaits (suc k) More n m zero le more lower deeper =
    let inner = seq_reads awaits m m (omega arith) (λ (p : ⊥). absurd p) (compound_way awaits k ⊥ m m k (omega arith) (λ p. absurd p) (omega arith) (λ p. absurd p)) in
    shut_way (shut_closed a_compound) (compound_reads m m (omega arith) (λ (p : ⊥). absurd p) inner).laws (compound_starts m (IsSeq m awaits k)) (compound_goes m m (omega arith) (λ (p : ⊥). absurd p) inner)
compound_way awaits (suc k) More n m (suc j) le more lower deeper =
    let inner = seq_reads awaits n m le more (compound_way awaits k More n m j le more (omega arith) (λ p. let lt = deeper p in omega arith)) in
    open_way (compound_reads n m le more inner) (compound_starts m (IsSeq m awaits k))

pub seq_level : {More : Type 0} (awaits : Bool) (n m : ℕ) → n ≤ m → (More → n < m) → Reads More (seq_at n awaits n) (seq_at m awaits m) (IsSeq n awaits n) (IsSeq m awaits m) after_seq
seq_level {More} awaits n m le more = seq_reads awaits n m le more (compound_way awaits m More n m n le more le more)

-- ---- the parts that loops read

pub element_laws : Laws element_at IsElement after_sum
element_laws = (element_reads {More = ⊥}).laws

pub step_laws : (awaits : Bool) (n k : ℕ) → Laws (step_by n awaits (compound_at n awaits k)) (IsStepWith n awaits (compounds n awaits k)) nothing
step_laws awaits n k = (step_reads awaits n n (omega arith) (λ (p : ⊥). absurd p) (compound_way awaits k ⊥ n n k (omega arith) (λ p. absurd p) (omega arith) (λ p. absurd p))).laws

pub step_first : (awaits : Bool) (n k : ℕ) → Starts (IsStepWith n awaits (compounds n awaits k)) a_stmt
step_first awaits n k = step_starts awaits n n (omega arith) (λ (p : ⊥). absurd p) (compound_way awaits k ⊥ n n k (omega arith) (λ p. absurd p) (omega arith) (λ p. absurd p))

pub seq_laws : (awaits : Bool) (n : ℕ) → Laws (seq_at n awaits n) (IsSeq n awaits n) after_seq
seq_laws awaits n = (seq_level {More = ⊥} awaits n n (omega arith) (λ p. absurd p)).laws

pub step_shortens : (awaits : Bool) (n k : ℕ) → Shortens (step_by n awaits (compound_at n awaits k))
step_shortens awaits n k = shortens_by (step_laws awaits n k) (step_first awaits n k)
