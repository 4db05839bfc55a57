-- Assertions, with uses, quantifiers and lists as they are written out.
use Rattle.std.specs.Prelude.{ℕ, zero, suc, List, [], ◌∷◌, ◌++◌, Ok}
use Rattle.og_text.specs.declared.place.Span.{Span}
use Rattle.og_parse.specs.declared.raw.RawName.{RawName}
use Rattle.og_parse.specs.Trees as outline
use Rattle.og_template.specs.declared.fault.FaultKind.TheVariants.{TooDeep}
use Rattle.og_template_expand.specs.declared.connective.Connective.{Connective}
use Rattle.og_template_expand.specs.declared.connective.Connective.TheVariants.{And, Or}
use Rattle.og_template_expand.specs.Trees.{Expression, Assertion, Alone, Implies, Disjunction, no_part, part, Conjunction, no_unit, unit, Unit, Truth, Falsity, Comparison, Use, Not, Group, All, Any, Binder}
use Rattle.og_template_expand.specs.Answer.{Checked, ◌>>=◌, refused}
use Rattle.og_template_expand.specs.Scope.{Bound, Scope, defined_of}
use Rattle.og_template_expand.specs.Values.{value_of}
use Rattle.og_template_expand.specs.Ranges.{instances}
use Rattle.og_template_expand.specs.Sums.{sum_of}

-- ---- lists

abbrev pub operands_of : outline.Assertions → List outline.Assertion
operands_of outline.none = []
operands_of (outline.more a others) = a ∷ operands_of others

-- an operand of a list; a list of the same kind gives its operands in its place
abbrev pub spliced : Connective → outline.Assertion → List outline.Assertion
spliced And (outline.Conjunction all) = operands_of all
spliced Or (outline.Disjunction all) = operands_of all
spliced connective a = a ∷ []

abbrev pub none_of : Connective → outline.Assertion
none_of And = outline.Truth
none_of Or = outline.Falsity

abbrev pub list_of : Connective → List outline.Assertion → outline.Assertion
list_of And all = outline.Conjunction (outline.listed all)
list_of Or all = outline.Disjunction (outline.listed all)

-- one is itself; none is `true` or `false`
abbrev pub joined : Connective → List outline.Assertion → outline.Assertion
joined connective [] = none_of connective
joined connective (a ∷ []) = a
joined connective (a ∷ b ∷ others) = list_of connective (a ∷ b ∷ others)

-- ---- uses

-- the first word of a unit
abbrev pub first_word : Unit → Span
first_word (Truth place) = place
first_word (Falsity place) = place
first_word (Comparison left relation right) = left.place
first_word (Use name arguments) = name.span
first_word (Not place inner) = place
first_word (Group place inner) = place
first_word (All place binder inner) = place
first_word (Any place binder inner) = place

-- parameters with the values of their arguments
abbrev pub arguments_of : Scope → List RawName → List Expression → Checked (List Bound)
arguments_of scope parameters [] = Ok []
arguments_of scope [] (e ∷ es) = Ok []
arguments_of scope (p ∷ ps) (e ∷ es) = do
  v ← value_of scope e
  others ← arguments_of scope ps es
  Ok ((p.name, v) ∷ others)

-- ---- what opens no level

-- what a unit is that opens a level, and what stands behind a `->`, in a scope
pub record Opens : Type 0 where
  pub unit : Scope → Unit → Checked outline.Assertion
  pub implied : Scope → Span → Assertion → Checked outline.Assertion

module _ (opens : Opens) (scope : Scope) where
  abbrev pub unit_by : Unit → Checked outline.Assertion
  unit_by (Truth place) = Ok outline.Truth
  unit_by (Falsity place) = Ok outline.Falsity
  unit_by (Comparison left relation right) = do
    l ← sum_of scope left
    r ← sum_of scope right
    Ok (outline.Comparison l relation r)
  unit_by u = opens.unit scope u

  abbrev pub conjuncts_by : Conjunction → Checked (List outline.Assertion)
  conjuncts_by no_unit = Ok []
  conjuncts_by (unit u others) = do
    a ← unit_by u
    all ← conjuncts_by others
    Ok (spliced And a ++ all)

  abbrev pub conjunction_by : Conjunction → Checked outline.Assertion
  conjunction_by (unit u no_unit) = unit_by u
  conjunction_by c = conjuncts_by c >>= λ all. Ok (joined And all)

  abbrev pub disjuncts_by : Disjunction → Checked (List outline.Assertion)
  disjuncts_by no_part = Ok []
  disjuncts_by (part c others) = do
    a ← conjunction_by c
    all ← disjuncts_by others
    Ok (spliced Or a ++ all)

  abbrev pub disjunction_by : Disjunction → Checked outline.Assertion
  disjunction_by (part c no_part) = conjunction_by c
  disjunction_by d = disjuncts_by d >>= λ all. Ok (joined Or all)

  abbrev pub assertion_by : Assertion → Checked outline.Assertion
  assertion_by (Alone d) = disjunction_by d
  assertion_by (Implies d place right) = do
    a ← disjunction_by d
    b ← opens.implied scope place right
    Ok (outline.Implication a b)

-- ---- levels

-- a named assertion under the values of its arguments: it sees its parameters and what is declared
abbrev pub use_by : Opens → Scope → RawName → List Expression → Checked outline.Assertion
use_by inner scope name arguments = do
  d ← defined_of scope name
  bound ← arguments_of scope d.parameters arguments
  assertion_by inner (record { declared = scope.declared; bound = bound }) d.assertion

-- the operands that a quantified unit gives in one instance
abbrev pub operands_by : Opens → Connective → Unit → Scope → Checked (List outline.Assertion)
operands_by inner connective u scope = unit_by inner scope u >>= λ a. Ok (spliced connective a)

abbrev pub quantified_by : Opens → Connective → Scope → Binder → Unit → Checked outline.Assertion
quantified_by inner connective scope binder u = do
  all ← instances scope binder (operands_by inner connective u)
  Ok (joined connective all)

abbrev pub negation_by : Opens → Scope → Unit → Checked outline.Assertion
negation_by inner scope u = unit_by inner scope u >>= λ a. Ok (outline.Negation a)

abbrev pub opened_by : Opens → Scope → Unit → Checked outline.Assertion
opened_by inner scope (Use name arguments) = use_by inner scope name arguments
opened_by inner scope (Not place u) = negation_by inner scope u
opened_by inner scope (Group place a) = assertion_by inner scope a
opened_by inner scope (All place binder u) = quantified_by inner And scope binder u
opened_by inner scope (Any place binder u) = quantified_by inner Or scope binder u
opened_by inner scope u = unit_by inner scope u

-- where this number of levels is left
abbrev pub opens : ℕ → Opens
opens zero = record {
  unit = λ scope u. refused TooDeep (first_word u);
  implied = λ scope place right. refused TooDeep place;
}
opens (suc n) = record {
  unit = opened_by (opens n);
  implied = λ scope place right. assertion_by (opens n) scope right;
}

-- the assertion of a note, a test or a guard, with at most 100 levels
abbrev pub assertion_of : Scope → Assertion → Checked outline.Assertion
assertion_of = assertion_by (opens 100)
