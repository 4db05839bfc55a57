-- The statements of a tree are those that its tokens begin, part by part.
use Rattle.std.proofs.Common.{◌≡◌, ℕ, zero, suc, ◌+◌, Bool, true, false, ◌&&◌, List, [], ◌∷◌, Option, Some, None, refl, arith}
use Rattle.std.specs.Prelude.{sum_by, unwrap_or}
use Rattle.std.proofs.lemmas.List.Sums.{sum_by-cons}
use Rattle.og_text.specs.declared.place.Span.{Span}
use Rattle.og_text.specs.declared.token.TokenKind.{TokenKind}
use Rattle.og_text.specs.declared.token.TokenKind.TheVariants as kinds
use Rattle.og_text.specs.declared.token.Token.{Token}
use Rattle.og_parse.specs.Language.{Language, Symbol, One, Gives, ◌>>=◌, After, Separated, IfSymbol}
use Rattle.og_parse.specs.declared.raw.RawName.{RawName}
use Rattle.og_parse.specs.declared.raw.RawAux.{RawAux}
use Rattle.og_parse.specs.declared.raw.Sign.{Sign}
use Rattle.og_parse.specs.declared.raw.Sign.TheVariants.{Plus, Minus}
use Rattle.og_parse.specs.declared.raw.Relation.{Relation}
use Rattle.og_parse.specs.declared.raw.RawFactor.TheVariants.{Variable}
use Rattle.og_parse.specs.Trees.{Assertion, Truth, Falsity, Comparison, Negation, Implication, conjunction, disjunction, Note, Skip, Assign, Stmt, Simple, While, Await, choice, Step, sequence, Seq, Outline}
use Rattle.og_parse.specs.Counts.{inner_count, seq_count, main_count, outline_count}
use Rattle.og_parse.specs.Words.{name_kind, name_of, number_kind, value_of, sign_kind, sign_of, relation_kind, relation_of}
use Rattle.og_parse.specs.Grammar.{IsLeading, product, IsFactor, term, IsTerms, IsSum, IsInt, IsComparison, Openings, IsUnitWith, IsConjunctionWith, IsDisjunctionWith, IsAssertionWith, openings, IsAssertion, IsNote, IsBasic, IsElement, IsBody, IsAwait, IsBlock, IsIf, IsWhile, IsStmtWith, IsStepWith, IsSeqWith, compounds, IsSeq, IsAux, IsListed, IsMain, IsOutline}
use Rattle.og_parse.proofs.Productions.{IsSimple, IsRestOfBlock}
use Rattle.og_parse.specs.Faults.{IsAnyOutline}
use Rattle.og_parse.specs.Limits.{begins_statement, closes_note, statement_count}
use Rattle.og_parse.proofs.Counts.{one_if}
use Rattle.og_parse.proofs.Counted.{Counts, Quiet, then_counts, gives_counts, symbol_counts, one_counts, plain_symbol, either_counts, never_counts, allowed_counts, with_place_counts, many_counts, either_then_counts, quiet_symbol, quiet_then, quiet_gives, quiet_many, quiet_separated, quiet_if_symbol}

-- ---- tokens with a value

abbrev Facts : TokenKind → Bool → Type 0
Facts kind begins = (begins_statement kind ≡ begins) × (closes_note kind ≡ false)

name_facts : (span : Span) (kind : TokenKind) (x : RawName) → name_kind span kind ≡ Some x → Facts kind true
name_facts span (kinds.Name bytes) x e = (refl, refl)
name_facts span kind x e = absurd cc

number_facts : (kind : TokenKind) (x : ℕ) → number_kind kind ≡ Some x → Facts kind false
number_facts (kinds.Number n) x e = (refl, refl)
number_facts kind x e = absurd cc

sign_facts : (kind : TokenKind) (x : Sign) → sign_kind kind ≡ Some x → Facts kind false
sign_facts kinds.Plus x e = (refl, refl)
sign_facts kinds.Minus x e = (refl, refl)
sign_facts kind x e = absurd cc

relation_facts : (kind : TokenKind) (x : Relation) → relation_kind kind ≡ Some x → Facts kind false
relation_facts kinds.LessEqual x e = (refl, refl)
relation_facts kinds.Less x e = (refl, refl)
relation_facts kinds.GreaterEqual x e = (refl, refl)
relation_facts kinds.Greater x e = (refl, refl)
relation_facts kinds.Equal x e = (refl, refl)
relation_facts kinds.NotEqual x e = (refl, refl)
relation_facts kind x e = absurd cc

name_counts : (enter : Bool) → Counts enter 0 (One name_of) (λ x. one_if (enter && true)) false
name_counts enter = one_counts enter name_of true (λ token x e. name_facts token.span token.kind x e)

quiet_name : Quiet (One name_of)
quiet_name = name_counts false

quiet_number : Quiet (One value_of)
quiet_number = one_counts false value_of false (λ token x e. number_facts token.kind x e)

quiet_sign : Quiet (One sign_of)
quiet_sign = one_counts false sign_of false (λ token x e. sign_facts token.kind x e)

quiet_relation : Quiet (One relation_of)
quiet_relation = one_counts false relation_of false (λ token x e. relation_facts token.kind x e)

-- ---- sums and assertions

quiet_leading : Quiet IsLeading
quiet_leading = either_counts (quiet_then (quiet_symbol kinds.Minus refl) (λ at. quiet_gives Minus)) (quiet_gives Plus)

quiet_factor : Quiet IsFactor
quiet_factor = either_counts (quiet_then quiet_name (λ name. quiet_gives (Variable name))) (quiet_then quiet_number (λ n. quiet_then (quiet_if_symbol kinds.Star refl quiet_name) (λ name. quiet_gives (product n name))))

quiet_terms : Quiet IsTerms
quiet_terms = quiet_then quiet_leading (λ sign. quiet_then quiet_factor (λ factor. quiet_then (quiet_many (quiet_then quiet_sign (λ s. quiet_then quiet_factor (λ f. quiet_gives (term s f))))) (λ others. quiet_gives (term sign factor ∷ others))))

quiet_sum : Quiet IsSum
quiet_sum = with_place_counts quiet_terms

quiet_int : Quiet IsInt
quiet_int = quiet_then (with_place_counts (quiet_then quiet_leading (λ sign. quiet_then quiet_number (λ (n : ℕ). quiet_gives (sign, n))))) (λ signed. quiet_gives (record { sign = signed.value.0; number = signed.value.1; span = signed.place }))

quiet_comparison : Quiet IsComparison
quiet_comparison = quiet_then quiet_sum (λ left. quiet_then quiet_relation (λ relation. quiet_then quiet_sum (λ right. quiet_gives (Comparison left relation right))))

record QuietOpenings (o : Openings) : Type 0 where
  prefix : Quiet o.prefix
  implied : (left : Assertion) → Quiet (o.implied left)

module _ {o : Openings} (quiet : QuietOpenings o) where
  quiet_unit : Quiet (IsUnitWith o)
  quiet_unit = either_counts quiet.prefix (either_counts (quiet_then (quiet_symbol kinds.True refl) (λ at. quiet_gives Truth)) (either_counts (quiet_then (quiet_symbol kinds.False refl) (λ at. quiet_gives Falsity)) quiet_comparison))

  quiet_conjunction : Quiet (IsConjunctionWith o)
  quiet_conjunction = quiet_then (quiet_separated kinds.And refl quiet_unit) (λ all. quiet_gives (conjunction all))

  quiet_disjunction : Quiet (IsDisjunctionWith o)
  quiet_disjunction = quiet_then (quiet_separated kinds.Or refl quiet_conjunction) (λ all. quiet_gives (disjunction all))

  quiet_assertion_with : Quiet (IsAssertionWith o)
  quiet_assertion_with = quiet_then quiet_disjunction (λ left. either_counts (quiet.implied left) (quiet_gives left))

quiet_openings : (n : ℕ) → QuietOpenings (openings n)
quiet_openings zero = record { prefix = never_counts; implied = λ left. never_counts }
quiet_openings (suc n) =
    let inner = quiet_openings n in
    record {
      prefix = either_counts (quiet_then (quiet_symbol kinds.Not refl) (λ at. quiet_then (quiet_unit inner) (λ a. quiet_gives (Negation a))))
          (quiet_then (quiet_symbol kinds.OpenParen refl) (λ at. quiet_then (quiet_assertion_with inner) (λ a. quiet_then (quiet_symbol kinds.CloseParen refl) (λ at. quiet_gives a))));
      implied = λ left. quiet_then (quiet_symbol kinds.Arrow refl) (λ at. quiet_then (quiet_assertion_with inner) (λ right. quiet_gives (Implication left right)));
    }

quiet_assertion : (n : ℕ) → Quiet (IsAssertion n)
quiet_assertion n = quiet_assertion_with (quiet_openings n)

note_counts : (n : ℕ) → Counts false 0 (IsNote n) (λ x. 0) true
note_counts n = with_place_counts (then_counts (quiet_symbol kinds.OpenBrace refl) (λ at. then_counts (quiet_assertion n) (λ a. then_counts (symbol_counts false kinds.CloseBrace) (λ at. gives_counts true 0 a refl))))

-- ---- statements

begun : (e : Bool) → one_if (e && true) ≡ one_if e
begun true = refl
begun false = refl

basic_counts : (e : Bool) → Counts e 0 IsBasic (λ b. one_if e) false
basic_counts e = either_counts
    (then_counts (symbol_counts e kinds.Skip) (λ at. gives_counts false (0 + one_if (e && true)) Skip (omega (arith, begun e))))
    (then_counts (name_counts e) (λ name. then_counts (quiet_symbol kinds.Assign refl) (λ at. then_counts quiet_sum (λ sum. gives_counts false (0 + one_if (e && true) + 0 + 0) (Assign name sum) (omega (arith, begun e))))))

quiet_element : Quiet IsElement
quiet_element = with_place_counts (basic_counts false)

quiet_body : Quiet IsBody
quiet_body = either_counts
    (quiet_then (quiet_symbol kinds.Begin refl) (λ at. quiet_then (quiet_separated kinds.Semicolon refl quiet_element) (λ all. quiet_then (quiet_symbol kinds.End refl) (λ at. quiet_gives all))))
    (quiet_then quiet_element (λ element. quiet_gives (element ∷ [])))

abbrev stmt_count : Stmt → ℕ
stmt_count s = 1 + inner_count s

abbrev step_count : Step → ℕ
step_count step = stmt_count step.stmt.value

await_counts : (n : ℕ) → Counts true 0 (IsAwait n) stmt_count false
await_counts n = then_counts (symbol_counts true kinds.Await) (λ at. then_counts (quiet_assertion n) (λ guard. then_counts (quiet_symbol kinds.Then refl) (λ at. then_counts quiet_body (λ body. gives_counts false 1 (Await guard body) refl))))

simple_counts : Counts true 0 IsSimple stmt_count false
simple_counts = then_counts (basic_counts true) (λ basic. gives_counts false 1 (Simple basic) refl)

choice_count : (test : Assertion) (branch : Seq) (other : Option Seq) → 1 + seq_count branch + main_count other ≡ stmt_count (choice test branch other)
choice_count test branch None = omega arith
choice_count test branch (Some s) = omega arith

module _ {seq : Language Seq} (inner : Counts false 0 seq seq_count true) where
  rest_of_block_counts : Counts false 0 (IsRestOfBlock seq) seq_count false
  rest_of_block_counts = then_counts inner (λ s. then_counts (plain_symbol true kinds.End refl) (λ at. gives_counts false (0 + seq_count s + 0) s (omega arith)))

  block_counts : Counts false 0 (IsBlock seq) seq_count false
  block_counts = then_counts (quiet_symbol kinds.Begin refl) (λ at. rest_of_block_counts)

  else_counts : Counts false 0 (IfSymbol kinds.Else (IsBlock seq)) main_count false
  else_counts = either_counts (then_counts (then_counts (quiet_symbol kinds.Else refl) (λ at. block_counts)) (λ s. gives_counts false (0 + seq_count s) (Some s) (omega arith))) (gives_counts false 0 None refl)

  if_counts : (n : ℕ) → Counts true 0 (IsIf n seq) stmt_count false
  if_counts n = then_counts (symbol_counts true kinds.If) (λ at. then_counts (quiet_assertion n) (λ test. then_counts (quiet_symbol kinds.Then refl) (λ at. then_counts block_counts (λ branch. then_counts else_counts (λ other. gives_counts false (1 + seq_count branch + main_count other) (choice test branch other) (choice_count test branch other))))))

  while_counts : (n : ℕ) → Counts true 0 (IsWhile n seq) stmt_count false
  while_counts n = then_counts (symbol_counts true kinds.While) (λ at. then_counts (quiet_assertion n) (λ test. then_counts (quiet_symbol kinds.Do refl) (λ at. then_counts block_counts (λ body. gives_counts false (1 + seq_count body) (While test body) refl))))

sequence_count : (before : Note) (steps : List Step) → seq_count (sequence before steps) ≡ sum_by step_count steps
sequence_count before [] = refl
sequence_count before (step ∷ steps) = let rest = sequence_count step.after steps in omega (arith, rest, sum_by-cons step_count step steps)

module _ (n : ℕ) (awaits : Bool) {compound : Language Stmt} (compound_counts : Counts true 0 compound stmt_count false) where
  stmt_counts : Counts true 0 (IsStmtWith n awaits compound) stmt_count false
  stmt_counts = either_counts compound_counts (either_counts (allowed_counts awaits (await_counts n)) simple_counts)

  step_counts : Counts true 0 (IsStepWith n awaits compound) step_count true
  step_counts = then_counts (with_place_counts stmt_counts) (λ stmt. then_counts (note_counts n) (λ after. gives_counts true (0 + stmt_count stmt.value + 0) (record { stmt = stmt; after = after }) (omega arith)))

  seq_counts : Counts false 0 (IsSeqWith n awaits compound) seq_count true
  seq_counts =
      then_counts (note_counts n) (λ before. then_counts step_counts (λ first. then_counts (many_counts step_counts)
      (λ others. gives_counts true (0 + step_count first + sum_by step_count others) (sequence before (first ∷ others)) (omega (arith, sequence_count before (first ∷ others), sum_by-cons step_count first others)))))

compounds_count : (n : ℕ) (awaits : Bool) (k : ℕ) → Counts true 0 (compounds n awaits k) stmt_count false
compounds_count n awaits zero = never_counts
compounds_count n awaits (suc k) = let inner = seq_counts n awaits (compounds_count n awaits k) in either_counts (if_counts inner n) (while_counts inner n)

seq_level_counts : (n : ℕ) (awaits : Bool) → Counts false 0 (IsSeq n awaits n) seq_count true
seq_level_counts n awaits = seq_counts n awaits (compounds_count n awaits n)

-- ---- outlines

processes_counts : (n : ℕ) → Counts false 0 (Separated kinds.Parallel (IsSeq n true n)) (sum_by seq_count) true
processes_counts n =
    let each = seq_level_counts n true in
    then_counts each (λ first. then_counts (many_counts (then_counts (plain_symbol true kinds.Parallel refl) (λ at. each)))
    (λ others. gives_counts true (0 + seq_count first + sum_by seq_count others) (first ∷ others) (omega (arith, sum_by-cons seq_count first others))))

some_counts : (n : ℕ) (e : Bool) → Counts e 0 (After kinds.Begin (IsRestOfBlock (IsSeq n false n)) >>= λ s. Gives (Some s)) main_count false
some_counts n e = then_counts (then_counts (plain_symbol e kinds.Begin refl) (λ at. rest_of_block_counts (seq_level_counts n false))) (λ s. gives_counts false (0 + seq_count s) (Some s) (omega arith))

epilogue_counts : (n : ℕ) → Counts false 0 (IsMain n) main_count false
epilogue_counts n = either_counts (some_counts n false) (gives_counts false 0 None refl)

-- an outline from its 'cobegin' on
abbrev IsFromCobegin : ℕ → List RawName → List RawAux → Note → Option Seq → Language Outline
IsFromCobegin n vars auxes pre prologue = do
  cobegin ← Symbol kinds.Cobegin
  processes ← Separated kinds.Parallel (IsSeq n true n)
  coend ← Symbol kinds.Coend
  epilogue ← IsMain n
  post ← IsNote n
  Gives (record { vars = vars; auxes = auxes; pre = pre; prologue = prologue; cobegin = cobegin; processes = processes; epilogue = epilogue; post = post })

from_cobegin_counts : (n : ℕ) (e : Bool) (vars : List RawName) (auxes : List RawAux) (pre : Note) (prologue : Option Seq) → Counts e (0 + main_count prologue) (IsFromCobegin n vars auxes pre prologue) outline_count true
from_cobegin_counts n e vars auxes pre prologue =
    then_counts (plain_symbol e kinds.Cobegin refl) (λ cobegin. then_counts (processes_counts n) (λ processes. then_counts (plain_symbol true kinds.Coend refl) (λ coend. then_counts (epilogue_counts n) (λ epilogue. then_counts (note_counts n)
    (λ post. gives_counts true (0 + main_count prologue + 0 + sum_by seq_count processes + 0 + main_count epilogue + 0) (record { vars = vars; auxes = auxes; pre = pre; prologue = prologue; cobegin = cobegin; processes = processes; epilogue = epilogue; post = post }) (omega arith))))))

quiet_listed : {X : Type 0} {each : Language X} → Quiet each → Quiet (IsListed each)
quiet_listed each = quiet_then (quiet_separated kinds.Comma refl each) (λ all. quiet_then (quiet_symbol kinds.Semicolon refl) (λ at. quiet_gives all))

quiet_aux : Quiet IsAux
quiet_aux = quiet_then quiet_name (λ name. quiet_then (quiet_symbol kinds.Equal refl) (λ at. quiet_then quiet_int (λ value. quiet_gives (record { name = name; value = value }))))

outline_counts : (n : ℕ) → Counts false 0 (IsOutline n) outline_count true
outline_counts n =
    then_counts (quiet_if_symbol kinds.Var refl (quiet_listed quiet_name)) (λ vars. then_counts (quiet_if_symbol kinds.Aux refl (quiet_listed quiet_aux)) (λ auxes. then_counts (note_counts n) (λ pre. either_then_counts
    (then_counts (some_counts n true) (λ prologue. from_cobegin_counts n false (unwrap_or vars []) (unwrap_or auxes []) pre prologue))
    (then_counts (gives_counts true 0 None refl) (λ prologue. from_cobegin_counts n true (unwrap_or vars []) (unwrap_or auxes []) pre prologue)))))

pub outline_counted : (outline : Outline) (tokens : List Token) → IsAnyOutline outline tokens → statement_count tokens ≡ outline_count outline
outline_counted outline tokens h = let one = (outline_counts h.0).counts outline tokens h.1 in omega arith
