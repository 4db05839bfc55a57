-- Relations as people write them: the added terms on the left, and the subtracted ones, with their signs turned, on the right.
use Rattle.std.specs.Prelude.{ℕ, ◌-◌, List, [], ◌∷◌, length, take, map, filter, Bool, true, false, not, ◌&&◌, ◌==◌, if◌then◌else◌, slice_get, Option, Some, None, option_map}
use Rattle.std.specs.List.{list_any}
use Rattle.og_parse.specs.declared.raw.Sign.{Sign}
use Rattle.og_parse.specs.declared.raw.Sign.TheVariants as signs
use Rattle.og_parse.specs.declared.raw.RawFactor.{RawFactor}
use Rattle.og_parse.specs.declared.raw.RawFactor.TheVariants as factors
use Rattle.og_parse.specs.declared.raw.RawTerm.{RawTerm}
use Rattle.og_parse.specs.declared.raw.Relation.{Relation}
use Rattle.og_parse.specs.declared.raw.Relation.TheVariants as relations
use Rattle.og_parse.specs.Trees.{Sum, Assertion, Assertions, Truth, Falsity, Comparison, Negation, Conjunction, Disjunction, Implication, none, more, Note, Stmt, Simple, If, IfElse, While, Await, Seq, item, finish, Outline}

-- ---- terms

abbrev pub is_plus : Sign → Bool
is_plus signs.Plus = true
is_plus signs.Minus = false

abbrev pub other_sign : Sign → Sign
other_sign signs.Plus = signs.Minus
other_sign signs.Minus = signs.Plus

abbrev pub is_number : RawFactor → Bool
is_number (factors.Number n) = true
is_number (factors.Variable x) = false
is_number (factors.Product n x) = false

abbrev pub is_this : ℕ → RawFactor → Bool
is_this n (factors.Number m) = m == n
is_this n (factors.Variable x) = false
is_this n (factors.Product m x) = false

abbrev pub turned : RawTerm → RawTerm
turned t = record { sign = other_sign t.sign; factor = t.factor }

-- a variable that is added, and one that is taken away
abbrev pub is_added : RawTerm → Bool
is_added t = not (is_number t.factor) && is_plus t.sign

abbrev pub is_taken : RawTerm → Bool
is_taken t = not (is_number t.factor) && not (is_plus t.sign)

-- ---- sides

-- the number 0 alone
abbrev pub is_zero : List RawTerm → Bool
is_zero [] = false
is_zero (t ∷ []) = is_this 0 t.factor
is_zero (t ∷ u ∷ ts) = false

abbrev pub or_zero : List RawTerm → List RawTerm
or_zero [] = record { sign = signs.Plus; factor = factors.Number 0 } ∷ []
or_zero (t ∷ ts) = t ∷ ts

-- what stays on the left: the variables that are added, or, where there are none, the numbers
abbrev pub stays : Bool → RawTerm → Bool
stays some t = if some then is_added t else is_number t.factor

abbrev pub left_side : List RawTerm → List RawTerm
left_side ts = or_zero (filter (stays (list_any is_added ts)) ts)

abbrev pub right_side : List RawTerm → List RawTerm
right_side ts = or_zero (map turned (filter (λ t. not (stays (list_any is_added ts) t)) ts))

-- ---- `<` for `<=` and 1

abbrev pub is_at_most : Relation → Bool
is_at_most relations.LessEqual = true
is_at_most relations.Less = false
is_at_most relations.GreaterEqual = false
is_at_most relations.Greater = false
is_at_most relations.Equal = false
is_at_most relations.NotEqual = false

abbrev pub is_one : Option RawTerm → Bool
is_one None = false
is_one (Some t) = is_this 1 t.factor && is_plus t.sign

-- a `<=` with variables for both sides, and with `+ 1` at the end
abbrev pub is_strict : Relation → List RawTerm → Bool
is_strict relation ts = is_at_most relation && (is_one (slice_get ts (length ts - 1)) && (list_any is_added ts && list_any is_taken ts))

-- the terms that `<` leaves, and the others as they are
abbrev pub stated_terms : Bool → List RawTerm → List RawTerm
stated_terms strict ts = if strict then take (length ts - 1) ts else ts

abbrev pub stated_relation : Bool → Relation → Relation
stated_relation strict relation = if strict then relations.Less else relation

-- ---- relations

abbrev pub with_terms : Sum → List RawTerm → Sum
with_terms sum ts = record { place = sum.place; value = ts }

-- terms that are compared with 0
abbrev pub parted : Sum → Relation → List RawTerm → Sum → Assertion
parted left relation ts right = Comparison (with_terms left (left_side ts)) relation (with_terms right (right_side ts))

-- with terms on both sides, where it has them on the left alone
abbrev pub readable_comparison : Sum → Relation → Sum → Assertion
readable_comparison left relation right =
    if is_zero right.value
    then parted left (stated_relation (is_strict relation left.value) relation) (stated_terms (is_strict relation left.value) left.value) right
    else Comparison left relation right

abbrev mutual
  pub readable_assertion : Assertion → Assertion
  readable_assertion Truth = Truth
  readable_assertion Falsity = Falsity
  readable_assertion (Comparison left relation right) = readable_comparison left relation right
  readable_assertion (Negation a) = Negation (readable_assertion a)
  readable_assertion (Conjunction all) = Conjunction (readable_assertions all)
  readable_assertion (Disjunction all) = Disjunction (readable_assertions all)
  readable_assertion (Implication left right) = Implication (readable_assertion left) (readable_assertion right)

  pub readable_assertions : Assertions → Assertions
  readable_assertions none = none
  readable_assertions (more a others) = more (readable_assertion a) (readable_assertions others)

-- ---- statements and outlines

abbrev pub readable_note : Note → Note
readable_note note = record { place = note.place; value = readable_assertion note.value }

abbrev mutual
  pub readable_stmt : Stmt → Stmt
  readable_stmt (Simple basic) = Simple basic
  readable_stmt (If test branch) = If (readable_assertion test) (readable_seq branch)
  readable_stmt (IfElse test branch other) = IfElse (readable_assertion test) (readable_seq branch) (readable_seq other)
  readable_stmt (While test body) = While (readable_assertion test) (readable_seq body)
  readable_stmt (Await guard body) = Await (readable_assertion guard) body

  pub readable_seq : Seq → Seq
  readable_seq (item before place stmt rest) = item (readable_note before) place (readable_stmt stmt) (readable_seq rest)
  readable_seq (finish last) = finish (readable_note last)

-- the outline with such relations everywhere
abbrev pub readable : Outline → Outline
readable o = record {
  vars = o.vars;
  auxes = o.auxes;
  pre = readable_note o.pre;
  prologue = option_map readable_seq o.prologue;
  cobegin = o.cobegin;
  processes = map readable_seq o.processes;
  epilogue = option_map readable_seq o.epilogue;
  post = readable_note o.post;
}
