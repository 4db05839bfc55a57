-- A readable tree stands for what the tree stands for.
use Rattle.std.proofs.Common.{◌≡◌, ℕ, ◌+◌, ◌-◌, ℤ, pos, negsuc, ◌+ℤ◌, ◌*ℤ◌, List, [], ◌∷◌, length, map, filter, take, Bool, true, false, if◌then◌else◌, Option, Some, None, option_map, refl, sym, ap, ap₂, ◌∙◌, arith}
use Rattle.std.specs.Prelude.{not, Ok, Err, slice_get, nat_lt}
use Rattle.std.specs.List.{list_any}
use Rattle.std.proofs.lemmas.Int.{ints}
use Rattle.std.proofs.lemmas.Bool.{and_parts, cond_both}
use Rattle.og_linear.specs.Linear.{FormValue, form_value}
use Rattle.og_linear.specs.Tidy.{IsTidy}
use Rattle.og_linear.specs.Arith.{scaled}
use Rattle.og_linear.proofs.Steps.{tidy_scale, tidy_merge}
use Rattle.og_parse.specs.declared.raw.RawTerm.{RawTerm}
use Rattle.og_parse.specs.declared.raw.Relation.{Relation}
use Rattle.og_parse.specs.declared.raw.Relation.TheVariants as relations
use Rattle.og_parse.specs.Trees as tree
use Rattle.og_typed.specs.declared.fault.TypeFault.{TypeFault}
use Rattle.og_typed.specs.declared.fault.TypeFault.TheVariants as faults
use Rattle.og_typed.specs.Syntax.{Formula, Le, Eq, Ne, Not, And, Or, Imp, Formulas, more, Noted, Statement, If, While, Await, Nothing, Else, Sequence, Last, Then, Program}
use Rattle.og_typed.specs.Resolved as meaning
use Rattle.og_typed.specs.Resolved.{Checked, ◌>>=◌, Scope, Use, Visible, Free, Outer, sum_from, sum_form, minus, plus_one, compared, small_at}
use Rattle.og_erase_readable.specs.Readable.{is_added, is_at_most, is_one, is_strict, is_zero, stays, turned, left_side, right_side, stated_terms, stated_relation, parted, readable_comparison, readable_assertion, readable_assertions, readable_note, readable_stmt, readable_seq, readable}
use Rattle.og_erase_readable.proofs.Weights.{IsReading, same_form, are_found, added, sum_found, sum_ok, added_tidy, added_at, found_filter, found_turned, found_take, found_or_zero, weights, turned_weights, parted_weights, weights-or_zero, weights-zero, weights-front}

-- ---- the sides of a relation

abbrev nothing : FormValue
nothing = form_value [] (pos 0)

abbrev one : FormValue
one = form_value [] (pos 1)

module _ (scope : Scope) (use_of : Use) where
  abbrev form : List RawTerm → FormValue
  form = added scope use_of nothing

  form_tidy : (ts : List RawTerm) → IsTidy (form ts).terms
  form_tidy ts = added_tidy scope use_of ts nothing tt

  left_found : (ts : List RawTerm) → are_found scope use_of ts ≡ true → are_found scope use_of (left_side ts) ≡ true
  left_found ts h = found_or_zero scope use_of (filter (stays (list_any is_added ts)) ts) (found_filter scope use_of (stays (list_any is_added ts)) ts h)

  right_found : (ts : List RawTerm) → are_found scope use_of ts ≡ true → are_found scope use_of (right_side ts) ≡ true
  right_found ts h =
      let gone = filter (λ t. not (stays (list_any is_added ts) t)) ts in
      found_or_zero scope use_of (map turned gone) (found_turned scope use_of gone (found_filter scope use_of (λ t. not (stays (list_any is_added ts) t)) ts h))

  -- the left side is the terms and the right side
  side_weights : (at : FormValue → ℤ) (ts : List RawTerm) → weights scope use_of at (left_side ts) ≡ weights scope use_of at ts +ℤ weights scope use_of at (right_side ts)
  side_weights at ts =
      let w : List RawTerm → ℤ = weights scope use_of at in
      let keep : RawTerm → Bool = stays (list_any is_added ts) in
      let kept = filter keep ts in
      let gone = filter (λ t. not (keep t)) ts in
      balance (w (left_side ts)) (w kept) (w ts) (w gone) (w (map turned gone)) (w (right_side ts))
      (weights-or_zero scope use_of at kept) (parted_weights scope use_of at keep ts) (turned_weights scope use_of at gone) (weights-or_zero scope use_of at (map turned gone))
    where
      balance : (l k t g n r : ℤ) → l ≡ k → t ≡ k +ℤ g → n +ℤ g ≡ pos 0 → r ≡ n → l ≡ t +ℤ r
      balance l k t g n r e1 e2 e3 e4 = omega (arith, ints)

  -- ---- forms with one difference

  minus_tidy : (f g : FormValue) → IsTidy f.terms → IsTidy g.terms → IsTidy (minus f g).terms
  minus_tidy f g h k = tidy_merge 0 f.terms _ h (tidy_scale (negsuc 0) 0 g.terms k)

  minus_at : (at : FormValue → ℤ) → IsReading at → (f g : FormValue) → IsTidy f.terms → IsTidy g.terms → at (minus f g) +ℤ at g ≡ at f
  minus_at at reading f g h k =
      less (at (minus f g)) (at f) (at g) (reading.sums f (scaled (negsuc 0) g) h (tidy_scale (negsuc 0) 0 g.terms k) ∙ ap (λ z. at f +ℤ z) (reading.multiples (negsuc 0) g k))
    where
      less : (d a b : ℤ) → d ≡ a +ℤ negsuc 0 *ℤ b → d +ℤ b ≡ a
      less d a b e = omega (arith, ints)

  same_minus : (f g p q : FormValue) → IsTidy f.terms → IsTidy g.terms → IsTidy p.terms → IsTidy q.terms → ((at : FormValue → ℤ) → IsReading at → at p +ℤ at g ≡ at f +ℤ at q) → minus p q ≡ minus f g
  same_minus f g p q hf hg hp hq same =
      same_form (minus p q) (minus f g) (minus_tidy p q hp hq) (minus_tidy f g hf hg)
      (λ at reading. both (at (minus p q)) (at (minus f g)) (at f) (at g) (at p) (at q) (minus_at at reading p q hp hq) (minus_at at reading f g hf hg) (same at reading))
    where
      both : (d e a b c z : ℤ) → d +ℤ z ≡ c → e +ℤ b ≡ a → c +ℤ b ≡ a +ℤ z → d ≡ e
      both d e a b c z h k same = omega (arith, ints)

  -- ---- relations that stay as they are

  stated_same : (left right : List RawTerm) → is_zero right ≡ true → (at : FormValue → ℤ) → IsReading at → at (form (left_side left)) +ℤ at (form right) ≡ at (form left) +ℤ at (form (right_side left))
  stated_same left right none at reading =
      let w : List RawTerm → ℤ = weights scope use_of at in
      let reads : (ts : List RawTerm) → at (form ts) ≡ at nothing +ℤ w ts = λ (ts : List RawTerm). added_at scope use_of at reading ts nothing tt in
      balance (at (form (left_side left))) (at (form right)) (at (form left)) (at (form (right_side left))) (at nothing) (w (left_side left)) (w right) (w left) (w (right_side left))
      (reads (left_side left)) (reads right) (reads left) (reads (right_side left)) (weights-zero scope use_of at right none) (side_weights at left)
    where
      balance : (a b c d z l o t r : ℤ) → a ≡ z +ℤ l → b ≡ z +ℤ o → c ≡ z +ℤ t → d ≡ z +ℤ r → o ≡ pos 0 → l ≡ t +ℤ r → a +ℤ b ≡ c +ℤ d
      balance a b c d z l o t r e1 e2 e3 e4 e5 e6 = omega (arith, ints)

  same_relation : (relation : Relation) (f g p q : FormValue) → IsTidy f.terms → IsTidy g.terms → IsTidy p.terms → IsTidy q.terms → ((at : FormValue → ℤ) → IsReading at → at p +ℤ at g ≡ at f +ℤ at q) → compared relation p q ≡ compared relation f g
  same_relation relation f g p q hf hg hp hq same =
      let there = same_minus f g p q hf hg hp hq same in
      let back = same_minus g f q p hg hf hq hp (λ at reading. turn (at p) (at g) (at f) (at q) (same at reading)) in
      go relation there back
    where
      turn : (a b c d : ℤ) → a +ℤ b ≡ c +ℤ d → d +ℤ c ≡ b +ℤ a
      turn a b c d e = omega (arith, ints)

      go : (r : Relation) → minus p q ≡ minus f g → minus q p ≡ minus g f → compared r p q ≡ compared r f g
      go relations.LessEqual there back = ap Le there
      go relations.Less there back = ap (λ h. Le (plus_one h)) there
      go relations.GreaterEqual there back = ap Le back
      go relations.Greater there back = ap (λ h. Le (plus_one h)) back
      go relations.Equal there back = ap Eq there
      go relations.NotEqual there back = ap Ne there

  -- ---- relations written with `<`

  strict_same : (left right : List RawTerm) → is_zero right ≡ true → is_one (slice_get left (length left - 1)) ≡ true
      → plus_one (minus (form (left_side (take (length left - 1) left))) (form (right_side (take (length left - 1) left)))) ≡ minus (form left) (form right)
  strict_same left right none last =
      let front = take (length left - 1) left in
      let p = form (left_side front) in
      let q = form (right_side front) in
      let hp = form_tidy (left_side front) in
      let hq = form_tidy (right_side front) in
      let hl = form_tidy left in
      let hr = form_tidy right in
      let tidy : IsTidy (plus_one (minus p q)).terms = tidy_merge 0 (minus p q).terms [] (minus_tidy p q hp hq) tt in
      same_form (plus_one (minus p q)) (minus (form left) (form right)) tidy (minus_tidy (form left) (form right) hl hr)
      (λ at reading.
      let w : List RawTerm → ℤ = weights scope use_of at in
      let reads : (ts : List RawTerm) → at (form ts) ≡ at nothing +ℤ w ts = λ (ts : List RawTerm). added_at scope use_of at reading ts nothing tt in
      balance (at (plus_one (minus p q))) (at (minus p q)) (at (minus (form left) (form right))) (at p) (at q) (at (form left)) (at (form right)) (at one) (at nothing) (w (left_side front)) (w (right_side front)) (w front) (w left) (w right)
      (reading.sums (minus p q) one (minus_tidy p q hp hq) tt) (minus_at at reading p q hp hq) (minus_at at reading (form left) (form right) hl hr)
      (reads (left_side front)) (reads (right_side front)) (reads left) (reads right) (weights-zero scope use_of at right none) (side_weights at front) (weights-front scope use_of at left last))
    where
      balance : (s d e p q l r u z wl wr wf w o : ℤ) → s ≡ d +ℤ u → d +ℤ q ≡ p → e +ℤ r ≡ l → p ≡ z +ℤ wl → q ≡ z +ℤ wr → l ≡ z +ℤ w → r ≡ z +ℤ o → o ≡ pos 0 → wl ≡ wf +ℤ wr → w ≡ wf +ℤ u → s ≡ e
      balance s d e p q l r u z wl wr wf w o e1 e2 e3 e4 e5 e6 e7 e8 e9 e10 = omega (arith, ints)

  strict_relation : (relation : Relation) (left right : List RawTerm) → is_zero right ≡ true → is_strict relation left ≡ true
      → compared relations.Less (form (left_side (take (length left - 1) left))) (form (right_side (take (length left - 1) left))) ≡ compared relation (form left) (form right)
  strict_relation relation left right none h =
      let first = and_parts (is_at_most relation) _ h in
      let second = and_parts (is_one (slice_get left (length left - 1))) _ first.1 in
      go relation first.0 (ap Le (strict_same left right none second.0))
    where
      go : (r : Relation) → is_at_most r ≡ true → Le (plus_one (minus (form (left_side (take (length left - 1) left))) (form (right_side (take (length left - 1) left))))) ≡ Le (minus (form left) (form right))
          → compared relations.Less (form (left_side (take (length left - 1) left))) (form (right_side (take (length left - 1) left))) ≡ compared r (form left) (form right)
      go relations.LessEqual k e = e
      go relations.Less k e = absurd cc
      go relations.GreaterEqual k e = absurd cc
      go relations.Greater k e = absurd cc
      go relations.Equal k e = absurd cc
      go relations.NotEqual k e = absurd cc

  stated_compared : (strict : Bool) (relation : Relation) (left right : List RawTerm) → is_zero right ≡ true → is_strict relation left ≡ strict
      → compared (stated_relation strict relation) (form (left_side (stated_terms strict left))) (form (right_side (stated_terms strict left))) ≡ compared relation (form left) (form right)
  stated_compared true relation left right none h = strict_relation relation left right none h
  stated_compared false relation left right none h =
      same_relation relation (form left) (form right) (form (left_side left)) (form (right_side left)) (form_tidy left) (form_tidy right) (form_tidy (left_side left)) (form_tidy (right_side left)) (stated_same left right none)

  stated_found : (strict : Bool) (ts : List RawTerm) → are_found scope use_of ts ≡ true → are_found scope use_of (stated_terms strict ts) ≡ true
  stated_found true ts h = found_take scope use_of (length ts - 1) ts h
  stated_found false ts h = h

  -- ---- comparisons

  parted_kept : (strict : Bool) (left : tree.Sum) (relation : Relation) (right : tree.Sum) (a : Formula) → is_zero right.value ≡ true → is_strict relation left.value ≡ strict
      → meaning.comparison scope use_of left relation right ≡ Ok a → meaning.assertion scope use_of (parted left (stated_relation strict relation) (stated_terms strict left.value) right) ≡ Ok a
  parted_kept strict left relation right a none is h = go (sum_form scope use_of left) (sum_form scope use_of right) refl refl h
    where
      go : (r s : Checked FormValue) → sum_form scope use_of left ≡ r → sum_form scope use_of right ≡ s → (r >>= λ f. s >>= λ g. small_at left.place.start (compared relation f g)) ≡ Ok a
          → meaning.assertion scope use_of (parted left (stated_relation strict relation) (stated_terms strict left.value) right) ≡ Ok a
      go (Err fault) s e d k = absurd cc
      go (Ok f) (Err fault) e d k = absurd cc
      go (Ok f) (Ok g) e d k =
          let l = sum_found scope use_of left.value nothing f e in
          let r = sum_found scope use_of right.value nothing g d in
          let stated = stated_terms strict left.value in
          let known = stated_found strict left.value l.0 in
          let one_side = sum_ok scope use_of (left_side stated) nothing (left_found stated known) in
          let other_side = sum_ok scope use_of (right_side stated) nothing (right_found stated known) in
          let test : Formula → Checked Formula = small_at left.place.start in
          ap (λ (x : Checked FormValue). x >>= λ p. sum_from scope use_of nothing (right_side stated) >>= λ q. test (compared (stated_relation strict relation) p q)) one_side
          ∙ ap (λ (x : Checked FormValue). x >>= λ q. test (compared (stated_relation strict relation) (form (left_side stated)) q)) other_side
          ∙ ap test (stated_compared strict relation left.value right.value none is ∙ ap₂ (λ x y. compared relation x y) (sym l.1) (sym r.1))
          ∙ k

  comparison_kept : (left : tree.Sum) (relation : Relation) (right : tree.Sum) (a : Formula) → meaning.comparison scope use_of left relation right ≡ Ok a → meaning.assertion scope use_of (readable_comparison left relation right) ≡ Ok a
  comparison_kept left relation right a h =
      let strict = is_strict relation left.value in
      cond_both (is_zero right.value) (parted left (stated_relation strict relation) (stated_terms strict left.value) right) (tree.Comparison left relation right) (λ c. meaning.assertion scope use_of c ≡ Ok a)
      (λ none. parted_kept strict left relation right a none refl h)
      (λ some. h)

-- ---- trees

-- one answer after the other
kept : {A B : Type 0} (first second : Checked A) (next after : A → Checked B) (b : B) → ((a : A) → first ≡ Ok a → second ≡ Ok a) → ((a : A) → next a ≡ Ok b → after a ≡ Ok b) → first >>= next ≡ Ok b → second >>= after ≡ Ok b
kept (Ok a) second next after b here later e = ap (λ r. r >>= after) (here a refl) ∙ later a e
kept (Err fault) second next after b here later e = absurd cc

mutual
  assertion_kept : (scope : Scope) (use_of : Use) (a : tree.Assertion) (b : Formula) → meaning.assertion scope use_of a ≡ Ok b → meaning.assertion scope use_of (readable_assertion a) ≡ Ok b
  assertion_kept scope use_of tree.Truth b e = e
  assertion_kept scope use_of tree.Falsity b e = e
  assertion_kept scope use_of (tree.Comparison left relation right) b e = comparison_kept scope use_of left relation right b e
  assertion_kept scope use_of (tree.Negation a) b e =
      kept (meaning.assertion scope use_of a) (meaning.assertion scope use_of (readable_assertion a)) (λ c. Ok (Not c)) (λ c. Ok (Not c)) b (assertion_kept scope use_of a) (λ c h. h) e
  assertion_kept scope use_of (tree.Conjunction all) b e =
      kept (meaning.assertions scope use_of all) (meaning.assertions scope use_of (readable_assertions all)) (λ cs. Ok (And cs)) (λ cs. Ok (And cs)) b (assertions_kept scope use_of all) (λ c h. h) e
  assertion_kept scope use_of (tree.Disjunction all) b e =
      kept (meaning.assertions scope use_of all) (meaning.assertions scope use_of (readable_assertions all)) (λ cs. Ok (Or cs)) (λ cs. Ok (Or cs)) b (assertions_kept scope use_of all) (λ c h. h) e
  assertion_kept scope use_of (tree.Implication left right) b e =
      kept (meaning.assertion scope use_of left) (meaning.assertion scope use_of (readable_assertion left))
      (λ c. meaning.assertion scope use_of right >>= λ d. Ok (Imp c d)) (λ c. meaning.assertion scope use_of (readable_assertion right) >>= λ d. Ok (Imp c d)) b
      (assertion_kept scope use_of left)
      (λ c. kept (meaning.assertion scope use_of right) (meaning.assertion scope use_of (readable_assertion right)) (λ d. Ok (Imp c d)) (λ d. Ok (Imp c d)) b (assertion_kept scope use_of right) (λ d h. h)) e

  assertions_kept : (scope : Scope) (use_of : Use) (all : tree.Assertions) (bs : Formulas) → meaning.assertions scope use_of all ≡ Ok bs → meaning.assertions scope use_of (readable_assertions all) ≡ Ok bs
  assertions_kept scope use_of tree.none bs e = e
  assertions_kept scope use_of (tree.more a others) bs e =
      kept (meaning.assertion scope use_of a) (meaning.assertion scope use_of (readable_assertion a))
      (λ c. meaning.assertions scope use_of others >>= λ cs. Ok (more c cs)) (λ c. meaning.assertions scope use_of (readable_assertions others) >>= λ cs. Ok (more c cs)) bs
      (assertion_kept scope use_of a)
      (λ c. kept (meaning.assertions scope use_of others) (meaning.assertions scope use_of (readable_assertions others)) (λ cs. Ok (more c cs)) (λ cs. Ok (more c cs)) bs (assertions_kept scope use_of others) (λ cs h. h)) e

note_kept : (scope : Scope) (use_of : Use) (n : tree.Note) (b : Noted) → meaning.note scope use_of n ≡ Ok b → meaning.note scope use_of (readable_note n) ≡ Ok b
note_kept scope use_of n b e =
    let placed : Formula → Checked Noted = λ (a : Formula). Ok (record { assertion = a; at = n.place.start }) in
    kept (meaning.assertion scope use_of n.value) (meaning.assertion scope use_of (readable_assertion n.value)) placed placed b (assertion_kept scope use_of n.value) (λ a h. h) e

mutual
  statement_kept : (scope : Scope) (s : tree.Stmt) (b : Statement) → meaning.statement scope s ≡ Ok b → meaning.statement scope (readable_stmt s) ≡ Ok b
  statement_kept scope (tree.Simple basic) b e = e
  statement_kept scope (tree.If test branch) b e =
      kept (meaning.assertion scope Visible test) (meaning.assertion scope Visible (readable_assertion test))
      (λ t. meaning.sequence scope branch >>= λ q. Ok (If t q Nothing)) (λ t. meaning.sequence scope (readable_seq branch) >>= λ q. Ok (If t q Nothing)) b
      (assertion_kept scope Visible test)
      (λ t. kept (meaning.sequence scope branch) (meaning.sequence scope (readable_seq branch)) (λ q. Ok (If t q Nothing)) (λ q. Ok (If t q Nothing)) b (sequence_kept scope branch) (λ q h. h)) e
  statement_kept scope (tree.IfElse test branch other) b e =
      kept (meaning.assertion scope Visible test) (meaning.assertion scope Visible (readable_assertion test))
      (λ t. meaning.sequence scope branch >>= λ q. meaning.sequence scope other >>= λ r. Ok (If t q (Else r)))
      (λ t. meaning.sequence scope (readable_seq branch) >>= λ q. meaning.sequence scope (readable_seq other) >>= λ r. Ok (If t q (Else r))) b
      (assertion_kept scope Visible test)
      (λ t. kept (meaning.sequence scope branch) (meaning.sequence scope (readable_seq branch))
      (λ q. meaning.sequence scope other >>= λ r. Ok (If t q (Else r))) (λ q. meaning.sequence scope (readable_seq other) >>= λ r. Ok (If t q (Else r))) b
      (sequence_kept scope branch)
      (λ q. kept (meaning.sequence scope other) (meaning.sequence scope (readable_seq other)) (λ r. Ok (If t q (Else r))) (λ r. Ok (If t q (Else r))) b (sequence_kept scope other) (λ r h. h))) e
  statement_kept scope (tree.While test body) b e =
      kept (meaning.assertion scope Visible test) (meaning.assertion scope Visible (readable_assertion test))
      (λ t. meaning.sequence scope body >>= λ q. Ok (While t q)) (λ t. meaning.sequence scope (readable_seq body) >>= λ q. Ok (While t q)) b
      (assertion_kept scope Visible test)
      (λ t. kept (meaning.sequence scope body) (meaning.sequence scope (readable_seq body)) (λ q. Ok (While t q)) (λ q. Ok (While t q)) b (sequence_kept scope body) (λ q h. h)) e
  statement_kept scope (tree.Await guard body) b e =
      let next : Formula → Checked Statement = λ (t : Formula). meaning.elements scope body >>= λ all. Ok (Await t all) in
      kept (meaning.assertion scope Visible guard) (meaning.assertion scope Visible (readable_assertion guard)) next next b (assertion_kept scope Visible guard) (λ t h. h) e

  sequence_kept : (scope : Scope) (s : tree.Seq) (b : Sequence) → meaning.sequence scope s ≡ Ok b → meaning.sequence scope (readable_seq s) ≡ Ok b
  sequence_kept scope (tree.item before place stmt rest) b e =
      kept (meaning.note scope Free before) (meaning.note scope Free (readable_note before))
      (λ n. meaning.statement scope stmt >>= λ s. meaning.sequence scope rest >>= λ q. Ok (Then n s place.start q))
      (λ n. meaning.statement scope (readable_stmt stmt) >>= λ s. meaning.sequence scope (readable_seq rest) >>= λ q. Ok (Then n s place.start q)) b
      (note_kept scope Free before)
      (λ n. kept (meaning.statement scope stmt) (meaning.statement scope (readable_stmt stmt))
      (λ s. meaning.sequence scope rest >>= λ q. Ok (Then n s place.start q)) (λ s. meaning.sequence scope (readable_seq rest) >>= λ q. Ok (Then n s place.start q)) b
      (statement_kept scope stmt)
      (λ s. kept (meaning.sequence scope rest) (meaning.sequence scope (readable_seq rest)) (λ q. Ok (Then n s place.start q)) (λ q. Ok (Then n s place.start q)) b (sequence_kept scope rest) (λ q h. h))) e
  sequence_kept scope (tree.finish last) b e =
      kept (meaning.note scope Free last) (meaning.note scope Free (readable_note last)) (λ n. Ok (Last n)) (λ n. Ok (Last n)) b (note_kept scope Free last) (λ n h. h) e

part_kept : (scope : Scope) (part : Option tree.Seq) (b : Option Sequence) → meaning.part scope part ≡ Ok b → meaning.part scope (option_map readable_seq part) ≡ Ok b
part_kept scope None b e = e
part_kept scope (Some seq) b e =
    let some : Sequence → Checked (Option Sequence) = λ (q : Sequence). Ok (Some q) in
    kept (meaning.sequence scope seq) (meaning.sequence scope (readable_seq seq)) some some b (sequence_kept scope seq) (λ q h. h) e

abbrev too_many : tree.Seq → TypeFault
too_many seq = faults.TooManyProcesses (meaning.place_of seq)

processes_kept : (scope : Scope) (before : ℕ) (all : List tree.Seq) (bs : List Sequence) → meaning.counted 256 too_many (meaning.sequence scope) before all ≡ Ok bs → meaning.counted 256 too_many (meaning.sequence scope) before (map readable_seq all) ≡ Ok bs
processes_kept scope before [] bs e = e
processes_kept scope before (seq ∷ all) bs e = go (nat_lt before 256) (processes_kept scope (before + 1) all) e
  where
    go : (b : Bool) → ((cs : List Sequence) → meaning.counted 256 too_many (meaning.sequence scope) (before + 1) all ≡ Ok cs → meaning.counted 256 too_many (meaning.sequence scope) (before + 1) (map readable_seq all) ≡ Ok cs)
        → (if b then (meaning.sequence scope seq >>= λ q. meaning.counted 256 too_many (meaning.sequence scope) (before + 1) all >>= λ qs. Ok (q ∷ qs)) else Err (too_many seq)) ≡ Ok bs
        → (if b then (meaning.sequence scope (readable_seq seq) >>= λ q. meaning.counted 256 too_many (meaning.sequence scope) (before + 1) (map readable_seq all) >>= λ qs. Ok (q ∷ qs)) else Err (too_many (readable_seq seq))) ≡ Ok bs
    go true later h =
        kept (meaning.sequence scope seq) (meaning.sequence scope (readable_seq seq))
        (λ q. meaning.counted 256 too_many (meaning.sequence scope) (before + 1) all >>= λ qs. Ok (q ∷ qs))
        (λ q. meaning.counted 256 too_many (meaning.sequence scope) (before + 1) (map readable_seq all) >>= λ qs. Ok (q ∷ qs)) bs
        (sequence_kept scope seq)
        (λ q. kept (meaning.counted 256 too_many (meaning.sequence scope) (before + 1) all) (meaning.counted 256 too_many (meaning.sequence scope) (before + 1) (map readable_seq all)) (λ qs. Ok (q ∷ qs)) (λ qs. Ok (q ∷ qs)) bs later (λ qs k. k)) h
    go false later h = absurd cc

outline_kept : (scope : Scope) (values : List ℤ) (o : tree.Outline) (p : Program) → meaning.outline_in scope values o ≡ Ok p → meaning.outline_in scope values (readable o) ≡ Ok p
outline_kept scope values o p e =
    let whole : Noted → Option Sequence → List Sequence → Option Sequence → Noted → Checked Program =
    λ (pre : Noted) (prologue : Option Sequence) (all : List Sequence) (epilogue : Option Sequence) (post : Noted).
    Ok (record { names = scope.names; vars = scope.vars; aux_values = values; pre = pre; prologue = prologue; processes = all; epilogue = epilogue; post = post; cobegin_at = o.cobegin.start }) in
    kept (meaning.note scope Outer o.pre) (meaning.note scope Outer (readable_note o.pre))
    (λ pre. meaning.part scope o.prologue >>= λ prologue. meaning.processes scope o.processes >>= λ all. meaning.part scope o.epilogue >>= λ epilogue. meaning.note scope Outer o.post >>= λ post. whole pre prologue all epilogue post)
    (λ pre. meaning.part scope (option_map readable_seq o.prologue) >>= λ prologue. meaning.processes scope (map readable_seq o.processes) >>= λ all. meaning.part scope (option_map readable_seq o.epilogue) >>= λ epilogue. meaning.note scope Outer (readable_note o.post) >>= λ post. whole pre prologue all epilogue post) p
    (note_kept scope Outer o.pre)
    (λ pre. kept (meaning.part scope o.prologue) (meaning.part scope (option_map readable_seq o.prologue))
    (λ prologue. meaning.processes scope o.processes >>= λ all. meaning.part scope o.epilogue >>= λ epilogue. meaning.note scope Outer o.post >>= λ post. whole pre prologue all epilogue post)
    (λ prologue. meaning.processes scope (map readable_seq o.processes) >>= λ all. meaning.part scope (option_map readable_seq o.epilogue) >>= λ epilogue. meaning.note scope Outer (readable_note o.post) >>= λ post. whole pre prologue all epilogue post) p
    (part_kept scope o.prologue)
    (λ prologue. kept (meaning.processes scope o.processes) (meaning.processes scope (map readable_seq o.processes))
    (λ all. meaning.part scope o.epilogue >>= λ epilogue. meaning.note scope Outer o.post >>= λ post. whole pre prologue all epilogue post)
    (λ all. meaning.part scope (option_map readable_seq o.epilogue) >>= λ epilogue. meaning.note scope Outer (readable_note o.post) >>= λ post. whole pre prologue all epilogue post) p
    (processes_kept scope 0 o.processes)
    (λ all. kept (meaning.part scope o.epilogue) (meaning.part scope (option_map readable_seq o.epilogue))
    (λ epilogue. meaning.note scope Outer o.post >>= λ post. whole pre prologue all epilogue post)
    (λ epilogue. meaning.note scope Outer (readable_note o.post) >>= λ post. whole pre prologue all epilogue post) p
    (part_kept scope o.epilogue)
    (λ epilogue. kept (meaning.note scope Outer o.post) (meaning.note scope Outer (readable_note o.post)) (whole pre prologue all epilogue) (whole pre prologue all epilogue) p (note_kept scope Outer o.post) (λ post h. h))))) e

-- the readable tree stands for the outline that the tree stands for
pub same_outline : (o : tree.Outline) (p : Program) → meaning.resolved o ≡ Ok p → meaning.resolved (readable o) ≡ Ok p
same_outline o p e =
    kept (meaning.declared_vars [] o.vars) (meaning.declared_vars [] o.vars)
    (λ vars. meaning.declared_auxes vars [] o.auxes >>= λ auxes. meaning.outline_in (record { names = auxes.0; vars = length vars }) auxes.1 o)
    (λ vars. meaning.declared_auxes vars [] o.auxes >>= λ auxes. meaning.outline_in (record { names = auxes.0; vars = length vars }) auxes.1 (readable o)) p
    (λ vars h. h)
    (λ vars. kept (meaning.declared_auxes vars [] o.auxes) (meaning.declared_auxes vars [] o.auxes)
    (λ auxes. meaning.outline_in (record { names = auxes.0; vars = length vars }) auxes.1 o)
    (λ auxes. meaning.outline_in (record { names = auxes.0; vars = length vars }) auxes.1 (readable o)) p
    (λ auxes h. h)
    (λ auxes. outline_kept (record { names = auxes.0; vars = length vars }) auxes.1 o p)) e
