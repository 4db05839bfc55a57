-- An outline without some parts meets the rule for auxiliary variables and the limits.
use Rattle.std.proofs.Common.{◌≡◌, ℕ, ◌≤◌, List, [], ◌∷◌, map, filter, take, length, Bool, true, false, cond, if◌then◌else◌, Option, Some, None, option_map, IfSome, refl, sym, subst, ⊎_elim, FitsSigned, eq-eqb, arith}
use Rattle.std.specs.Prelude.{nat_lt, ◌||◌}
use Rattle.std.specs.List.{AllByRecursion}
use Rattle.std.proofs.lemmas.List.Elements.{All-nil}
use Rattle.std.proofs.lemmas.List.{length-take-le, length-map}
use mir.Syntax.{w64}
use Rattle.std.proofs.lemmas.Bool.{and_parts, both_ways, cases_lt, lt-ltb, ltb-true, leb-false}
use Rattle.og_linear.specs.Linear.{Terms, FormValue, is_term, is_small}
use Rattle.og_typed.specs.Syntax.{Formula, True, False, Le, Eq, Ne, Not, And, Or, Imp, Formulas, none, more, Simple, Pass, Set, Statement, Skip, Assign, If, While, Await, Otherwise, Nothing, Else, Sequence, Last, Then, Program}
use Rattle.og_typed.specs.Pieces.{Piece, pieces, pieces_of_stmt, pieces_of_else}
use Rattle.og_typed.specs.Forms.{each_form, each_form_in}
use Rattle.og_typed.specs.Occurs.{occurs_in}
use Rattle.og_typed.specs.Rule.{IsPlain, IsPlainForm, SimpleFollows, StatementFollows, SequenceFollows, is_usable_form, IsUsable, IsUsableSimple, IsUsableSequence, IsUsableStatement, IsUsableOtherwise, IsOutline}
use Rattle.og_typed.specs.Erase.{is_aux_assign, is_kept, blank, erase_seq, erase_stmt, erase_else, erased}
use Rattle.og_typed.proofs.Each.{each_append, each_left, each_right}
use Rattle.og_typed.proofs.Below.{and_both, are_below}

-- ---- plain parts use variables below n alone

or_parts : (a b : Bool) → (a || b) ≡ false → (a ≡ false) × (b ≡ false)
or_parts true b h = absurd (both_ways true h refl)
or_parts false b h = (refl, h)

below : (n : ℕ) (ts : Terms) → ((x : ℕ) → n ≤ x → is_term x ts ≡ false) → are_below n ts ≡ true
below n [] plain = refl
below n (t ∷ ts) plain =
    and_both _ _
    (⊎_elim (λ lt. lt-ltb t.0 n lt) (λ le. absurd (both_ways _ (or_parts _ _ (plain t.0 le)).0 (eq-eqb t.0 t.0 refl))) (cases_lt t.0 n))
    (below n ts (λ x le. (or_parts _ _ (plain x le)).1))

-- every variable is one of the first m, and none from n on
form_left : (m n : ℕ) (f : FormValue) → is_usable_form m f ≡ true → IsPlainForm n f → is_usable_form n f ≡ true
form_left m n f usable plain = and_both _ _ (and_parts (is_small f) (are_below m f.terms) usable).0 (below n f.terms plain)

mutual
  formula_left : (m n : ℕ) (a : Formula) → IsUsable m a → IsPlain n a → IsUsable n a
  formula_left m n True usable plain = refl
  formula_left m n False usable plain = refl
  formula_left m n (Le f) usable plain = form_left m n f usable plain
  formula_left m n (Eq f) usable plain = form_left m n f usable plain
  formula_left m n (Ne f) usable plain = form_left m n f usable plain
  formula_left m n (Not a) usable plain = formula_left m n a usable plain
  formula_left m n (And all) usable plain = formulas_left m n all usable plain
  formula_left m n (Or all) usable plain = formulas_left m n all usable plain
  formula_left m n (Imp a b) usable plain =
      let both = and_parts (each_form (is_usable_form m) a) (each_form (is_usable_form m) b) usable in
      and_both _ _
      (formula_left m n a both.0 (λ x le. (or_parts _ _ (plain x le)).0))
      (formula_left m n b both.1 (λ x le. (or_parts _ _ (plain x le)).1))

  formulas_left : (m n : ℕ) (all : Formulas) → each_form_in (is_usable_form m) all ≡ true → ((x : ℕ) → n ≤ x → occurs_in x all ≡ false) → each_form_in (is_usable_form n) all ≡ true
  formulas_left m n none usable plain = refl
  formulas_left m n (more a rest) usable plain =
      let both = and_parts (each_form (is_usable_form m) a) (each_form_in (is_usable_form m) rest) usable in
      and_both _ _
      (formula_left m n a both.0 (λ x le. (or_parts _ _ (plain x le)).0))
      (formulas_left m n rest both.1 (λ x le. (or_parts _ _ (plain x le)).1))

-- ---- the bodies of awaits

body_left : (m n : ℕ) (body : List Simple) → AllByRecursion (IsUsableSimple m) body → AllByRecursion (SimpleFollows n) body → AllByRecursion (IsUsableSimple n) (filter (is_kept n) body)
body_left m n [] usable follows = tt
body_left m n (Pass ∷ rest) usable follows = (tt, body_left m n rest usable.1 follows.1)
body_left m n (Set x e ∷ rest) usable follows = go (nat_lt x n) refl (body_left m n rest usable.1 follows.1)
  where
    go : (b : Bool) → nat_lt x n ≡ b → AllByRecursion (IsUsableSimple n) (filter (is_kept n) rest) → AllByRecursion (IsUsableSimple n) (cond b (Set x e ∷ filter (is_kept n) rest) (filter (is_kept n) rest))
    go true k ih = ((ltb-true x n k, form_left m n e usable.0.1 (follows.0 k)), ih)
    go false k ih = ih

body_follows : (n : ℕ) (body : List Simple) → AllByRecursion (SimpleFollows n) body → AllByRecursion (SimpleFollows n) (filter (is_kept n) body)
body_follows n [] follows = tt
body_follows n (s ∷ rest) follows = go (is_kept n s) (body_follows n rest follows.1)
  where
    go : (b : Bool) → AllByRecursion (SimpleFollows n) (filter (is_kept n) rest) → AllByRecursion (SimpleFollows n) (cond b (s ∷ filter (is_kept n) rest) (filter (is_kept n) rest))
    go true ih = (follows.0, ih)
    go false ih = ih

-- ---- sequences

abbrev Follows : ℕ → List Piece → Type 0
Follows n = AllByRecursion (λ piece. StatementFollows n piece.stmt)

mutual
  seq_left : (m n : ℕ) (q : Sequence) → IsUsableSequence m q → SequenceFollows n q → IsUsableSequence n (erase_seq n q)
  seq_left m n (Last note) usable follows = refl
  seq_left m n (Then before stmt at rest) usable follows =
      go (is_aux_assign n stmt) refl
      (λ k. stmt_left m n stmt k usable.1 follows.0 (each_left (λ piece. StatementFollows n piece.stmt) (pieces_of_stmt stmt) (pieces rest) follows.1))
      (seq_left m n rest usable.2 (each_right (λ piece. StatementFollows n piece.stmt) (pieces_of_stmt stmt) (pieces rest) follows.1))
    where
      go : (b : Bool) → is_aux_assign n stmt ≡ b → (is_aux_assign n stmt ≡ false → IsUsableStatement n (erase_stmt n stmt)) → IsUsableSequence n (erase_seq n rest) → IsUsableSequence n (if b then erase_seq n rest else Then (blank before) (erase_stmt n stmt) at (erase_seq n rest))
      go true k here ih = ih
      go false k here ih = (refl, here k, ih)

  stmt_left : (m n : ℕ) (stmt : Statement) → is_aux_assign n stmt ≡ false → IsUsableStatement m stmt → StatementFollows n stmt → Follows n (pieces_of_stmt stmt) → IsUsableStatement n (erase_stmt n stmt)
  stmt_left m n Skip kept usable follows inside = tt
  stmt_left m n (Assign x e) kept usable follows inside = (leb-false n x kept, form_left m n e usable.1 (follows kept))
  stmt_left m n (If b branch other) kept usable follows inside = (
    formula_left m n b usable.0 follows,
    seq_left m n branch usable.1 (each_left (λ piece. StatementFollows n piece.stmt) (pieces branch) (pieces_of_else other) inside),
    else_left m n other usable.2 (each_right (λ piece. StatementFollows n piece.stmt) (pieces branch) (pieces_of_else other) inside),
  )
  stmt_left m n (While b body) kept usable follows inside = (formula_left m n b usable.0 follows, seq_left m n body usable.1 inside)
  stmt_left m n (Await b body) kept usable follows inside = (formula_left m n b usable.0 follows.0, body_left m n body usable.1 follows.1)

  else_left : (m n : ℕ) (other : Otherwise) → IsUsableOtherwise m other → Follows n (pieces_of_else other) → IsUsableOtherwise n (erase_else n other)
  else_left m n Nothing usable follows = tt
  else_left m n (Else branch) usable follows = seq_left m n branch usable follows

stmt_follows : (n : ℕ) (stmt : Statement) → StatementFollows n stmt → StatementFollows n (erase_stmt n stmt)
stmt_follows n Skip follows = tt
stmt_follows n (Assign x e) follows = follows
stmt_follows n (If b branch other) follows = follows
stmt_follows n (While b body) follows = follows
stmt_follows n (Await b body) follows = (follows.0, body_follows n body follows.1)

mutual
  seq_follows : (n : ℕ) (q : Sequence) → SequenceFollows n q → SequenceFollows n (erase_seq n q)
  seq_follows n (Last note) follows = tt
  seq_follows n (Then before stmt at rest) follows =
      go (is_aux_assign n stmt)
      (inside_follows n stmt (each_left (λ piece. StatementFollows n piece.stmt) (pieces_of_stmt stmt) (pieces rest) follows.1))
      (seq_follows n rest (each_right (λ piece. StatementFollows n piece.stmt) (pieces_of_stmt stmt) (pieces rest) follows.1))
    where
      go : (b : Bool) → Follows n (pieces_of_stmt (erase_stmt n stmt)) → SequenceFollows n (erase_seq n rest) → SequenceFollows n (if b then erase_seq n rest else Then (blank before) (erase_stmt n stmt) at (erase_seq n rest))
      go true here ih = ih
      go false here ih =
          (stmt_follows n stmt follows.0, each_append (λ piece. StatementFollows n piece.stmt) (pieces_of_stmt (erase_stmt n stmt)) (pieces (erase_seq n rest)) here ih)

  inside_follows : (n : ℕ) (stmt : Statement) → Follows n (pieces_of_stmt stmt) → Follows n (pieces_of_stmt (erase_stmt n stmt))
  inside_follows n Skip follows = tt
  inside_follows n (Assign x e) follows = tt
  inside_follows n (If b branch other) follows =
      each_append (λ piece. StatementFollows n piece.stmt) (pieces (erase_seq n branch)) (pieces_of_else (erase_else n other))
      (seq_follows n branch (each_left (λ piece. StatementFollows n piece.stmt) (pieces branch) (pieces_of_else other) follows))
      (else_follows n other (each_right (λ piece. StatementFollows n piece.stmt) (pieces branch) (pieces_of_else other) follows))
  inside_follows n (While b body) follows = seq_follows n body follows
  inside_follows n (Await b body) follows = tt

  else_follows : (n : ℕ) (other : Otherwise) → Follows n (pieces_of_else other) → Follows n (pieces_of_else (erase_else n other))
  else_follows n Nothing follows = tt
  else_follows n (Else branch) follows = seq_follows n branch follows

-- ---- the parts of an outline

each_moved : {X : Type 0} (P Q R : X → Type 0) (f : X → X) → ((x : X) → P x → Q x → R (f x)) → (xs : List X) → AllByRecursion P xs → AllByRecursion Q xs → AllByRecursion R (map f xs)
each_moved P Q R f h [] p q = tt
each_moved P Q R f h (x ∷ xs) p q = (h x p.0 q.0, each_moved P Q R f h xs p.1 q.1)

some_moved : {X : Type 0} (P Q R : X → Type 0) (f : X → X) → ((x : X) → P x → Q x → R (f x)) → (o : Option X) → IfSome o P → IfSome o Q → IfSome (option_map f o) R
some_moved P Q R f h None p q = tt
some_moved P Q R f h (Some x) p q = h x p q

-- the program of an outline is an outline
pub outline_left : (o : Program) → IsOutline o → IsOutline (erased o)
outline_left o h =
    let n = o.vars in
    let m = length o.names in
    let count : length (take n o.names) ≡ n = length-take-le n o.names (omega (arith, h.named)) in
    let follows = λ (q : Sequence) (_ : SequenceFollows n q) (k : SequenceFollows n q). seq_follows n q k in
    let used = λ (q : Sequence) (u : IsUsableSequence m q) (k : SequenceFollows n q). subst (λ c. IsUsableSequence c (erase_seq n q)) (sym count) (seq_left m n q u k) in
    let left = λ (a : Formula) (u : IsUsable m a) (k : IsPlain n a). subst (λ c. IsUsable c a) (sym count) (formula_left m n a u k) in
    record {
      pre_plain = h.pre_plain;
      post_plain = h.post_plain;
      prologue_follows = some_moved (SequenceFollows n) (SequenceFollows n) (SequenceFollows n) (erase_seq n) follows o.prologue h.prologue_follows h.prologue_follows;
      follows = each_moved (SequenceFollows n) (SequenceFollows n) (SequenceFollows n) (erase_seq n) follows o.processes h.follows h.follows;
      epilogue_follows = some_moved (SequenceFollows n) (SequenceFollows n) (SequenceFollows n) (erase_seq n) follows o.epilogue h.epilogue_follows h.epilogue_follows;
      aux_proper = All-nil (FitsSigned w64);
      named = omega (arith, count);
      few = omega (arith, count, h.named, h.few);
      some_process = simp length-map h.some_process;
      few_processes = simp length-map h.few_processes;
      pre_usable = left o.pre.assertion h.pre_usable h.pre_plain;
      prologue_usable = some_moved (IsUsableSequence m) (SequenceFollows n) (IsUsableSequence (length (take n o.names))) (erase_seq n) used o.prologue h.prologue_usable h.prologue_follows;
      usable = each_moved (IsUsableSequence m) (SequenceFollows n) (IsUsableSequence (length (take n o.names))) (erase_seq n) used o.processes h.usable h.follows;
      epilogue_usable = some_moved (IsUsableSequence m) (SequenceFollows n) (IsUsableSequence (length (take n o.names))) (erase_seq n) used o.epilogue h.epilogue_usable h.epilogue_follows;
      post_usable = left o.post.assertion h.post_usable h.post_plain;
    }
