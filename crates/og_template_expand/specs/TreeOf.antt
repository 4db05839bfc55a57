-- The tree of a template that lies in memory.
use Rattle.std.specs.Prelude.{List, [], ◌∷◌, map, Option, Some, None, option_map, Box}
use Rattle.std.specs.Global.{Global}
use Rattle.og_text.specs.declared.place.Span.{Span}
use Rattle.og_parse.specs.declared.raw.Sign.{Sign}
use Rattle.og_template.specs.declared.tree.Operator.{Operator}
use Rattle.og_template.specs.declared.tree.Expr.{Expr}
use Rattle.og_template.specs.declared.tree.Expr.TheOpen.{Expr-F, Link-F}
use Rattle.og_template.specs.declared.tree.Expr.TheFolds.{fold-Expr, fold-Link}
use Rattle.og_template.specs.declared.tree.Link.{Link}
use Rattle.og_template.specs.declared.tree.Bounds as declared_bounds
use Rattle.og_template.specs.declared.tree.Test as declared_test
use Rattle.og_template.specs.declared.tree.Binder as declared_binder
use Rattle.og_template.specs.declared.tree.Factor as declared_factor
use Rattle.og_template.specs.declared.tree.Factor.TheVariants as factors
use Rattle.og_template.specs.declared.tree.Sum as declared_sum
use Rattle.og_template.specs.declared.tree.Term as declared_term
use Rattle.og_template.specs.declared.tree.TermKind.TheOpen.{Term-F, TermKind-F}
use Rattle.og_template.specs.declared.tree.TermKind.TheFolds.{fold-Term, fold-TermKind}
use Rattle.og_template.specs.declared.tree.TermKind.{TermKind}
use Rattle.og_template.specs.declared.tree.Assertion as declared_assertion
use Rattle.og_template.specs.declared.tree.Unit.TheOpen.{Assertion-F, Disjunction-F, Conjunction-F, Unit-F}
use Rattle.og_template.specs.declared.tree.Unit.TheFolds.{fold-Assertion, fold-Disjunction, fold-Conjunction, fold-Unit}
use Rattle.og_template.specs.declared.tree.Disjunction as declared_disjunction
use Rattle.og_template.specs.declared.tree.Conjunction as declared_conjunction
use Rattle.og_template.specs.declared.tree.Unit as declared_unit
use Rattle.og_template.specs.declared.tree.Named as declared_named
use Rattle.og_template.specs.declared.tree.Note as declared_note
use Rattle.og_template.specs.declared.tree.Basic as declared_basic
use Rattle.og_template.specs.declared.tree.Basic.TheVariants as basics
use Rattle.og_template.specs.declared.tree.Element as declared_element
use Rattle.og_template.specs.declared.tree.Statement as declared_statement
use Rattle.og_template.specs.declared.tree.Statement.TheOpen.{Statement-F, Sequence-F, Step-F}
use Rattle.og_template.specs.declared.tree.Statement.TheFolds.{fold-Statement, fold-Sequence, fold-Step}
use Rattle.og_template.specs.declared.tree.Sequence as declared_sequence
use Rattle.og_template.specs.declared.tree.Step as declared_step
use Rattle.og_template_expand.specs.Trees.{Note, Basic, Skip, Assign, Simple, Statement, Once, If, IfElse, While, Await, Step, Stated, Repeated, Steps, no_step, step, Sequence, sequence}
use Rattle.og_template_expand.specs.Trees.{Expression, Number, Negative, Name, Minus, Chain, Links, no_link, link, Bounds, Test, Binder, Factor, Numeral, Bracketed, Named, Element, Applied, Kind, Single, Product, Total, Terms, no_term, term, Sum, Assertion, Alone, Implies, Disjunction, no_part, part, Conjunction, no_unit, unit, Unit, Truth, Falsity, Comparison, Use, Not, Group, All, Any, Definition}

-- ---- expressions, ranges

-- an operator with its right operand
pub record Operated : Type 0 where
  pub operator : Operator
  pub place : Span
  pub operand : Expression

abbrev pub linked : List Operated → Links
linked [] = no_link
linked (o ∷ others) = link o.operator o.place o.operand (linked others)

abbrev pub expression_step : Expr-F Expression Operated → Expression
expression_step (Expr-F.Number n span) = Number n span
expression_step (Expr-F.Negative n span) = Negative n span
expression_step (Expr-F.Name name) = Name name
expression_step (Expr-F.Minus inner span) = Minus inner.value span
expression_step (Expr-F.Chain first links) = Chain first.value (linked links.items)

abbrev pub link_step : Link-F Expression Operated → Operated
link_step l = record { operator = l.operator; place = l.span; operand = l.operand }

abbrev pub expression_of : Expr → Expression
expression_of = fold-Expr Expression Operated expression_step link_step

abbrev pub operated_of : Link → Operated
operated_of = fold-Link Expression Operated expression_step link_step

abbrev pub bounds_of : declared_bounds.Bounds → Bounds
bounds_of b = record { low = expression_of b.low; high = expression_of b.high; place = b.span }

abbrev pub test_of : declared_test.Test → Test
test_of t =
    record { left = expression_of t.left; relation = t.relation; right = expression_of t.right }

abbrev pub binder_of : declared_binder.Binder → Binder
binder_of b = record { name = b.name; range = bounds_of b.range; tests = map test_of b.tests.items }

-- ---- sums

abbrev pub factor_of : declared_factor.Factor → Factor
factor_of (factors.Number n) = Numeral n
factor_of (factors.Value e) = Bracketed (expression_of e)
factor_of (factors.Name name) = Named name
factor_of (factors.Element name index) = Element name (expression_of index)
factor_of (factors.Use name arguments) = Applied name (map expression_of arguments.items)

-- a term with its sign and its place
pub record Signed : Type 0 where
  pub sign : Sign
  pub place : Span
  pub kind : Kind

abbrev pub terms_then : List Signed → Terms
terms_then [] = no_term
terms_then (t ∷ others) = term t.sign t.place t.kind (terms_then others)

abbrev pub term_step : Term-F Kind Signed → Signed
term_step t = record { sign = t.sign; place = t.span; kind = t.kind }

abbrev pub kind_step : TermKind-F Kind Signed → Kind
kind_step (TermKind-F.Factor f) = Single (factor_of f)
kind_step (TermKind-F.Product left right) = Product (factor_of left) (factor_of right)
kind_step (TermKind-F.Total binder terms) = Total (binder_of binder) (terms_then terms.items)

abbrev pub signed_of : declared_term.Term → Signed
signed_of = fold-Term Kind Signed kind_step term_step

abbrev pub kind_of : TermKind → Kind
kind_of = fold-TermKind Kind Signed kind_step term_step

abbrev pub sum_of : declared_sum.Sum → Sum
sum_of s = record { place = s.span; value = terms_then (map signed_of s.terms.items) }

-- ---- assertions

abbrev pub conjoined : List Unit → Conjunction
conjoined [] = no_unit
conjoined (u ∷ others) = unit u (conjoined others)

abbrev pub disjoined : List Conjunction → Disjunction
disjoined [] = no_part
disjoined (c ∷ others) = part c (disjoined others)

abbrev pub implied_step : Disjunction → Option (Span × Box Assertion Global) → Assertion
implied_step left None = Alone left
implied_step left (Some p) = Implies left p.0 p.1.value

abbrev pub assertion_step : Assertion-F Unit Assertion Conjunction Disjunction → Assertion
assertion_step a = implied_step a.left a.implied

abbrev pub disjunction_step : Disjunction-F Unit Assertion Conjunction Disjunction → Disjunction
disjunction_step d = disjoined d.parts.items

abbrev pub conjunction_step : Conjunction-F Unit Assertion Conjunction Disjunction → Conjunction
conjunction_step c = conjoined c.parts.items

abbrev pub unit_step : Unit-F Unit Assertion Conjunction Disjunction → Unit
unit_step (Unit-F.True span) = Truth span
unit_step (Unit-F.False span) = Falsity span
unit_step (Unit-F.Compare left relation right) = Comparison (sum_of left) relation (sum_of right)
unit_step (Unit-F.Use name arguments) = Use name (map expression_of arguments.items)
unit_step (Unit-F.Not span inner) = Not span inner.value
unit_step (Unit-F.Group span inner) = Group span inner.value
unit_step (Unit-F.All span binder inner) = All span (binder_of binder) inner.value
unit_step (Unit-F.Any span binder inner) = Any span (binder_of binder) inner.value

abbrev pub assertion_of : declared_assertion.Assertion → Assertion
assertion_of = fold-Assertion Unit Assertion Conjunction Disjunction unit_step assertion_step
    conjunction_step disjunction_step

abbrev pub disjunction_of : declared_disjunction.Disjunction → Disjunction
disjunction_of = fold-Disjunction Unit Assertion Conjunction Disjunction unit_step assertion_step
    conjunction_step disjunction_step

abbrev pub conjunction_of : declared_conjunction.Conjunction → Conjunction
conjunction_of = fold-Conjunction Unit Assertion Conjunction Disjunction unit_step assertion_step
    conjunction_step disjunction_step

abbrev pub unit_of : declared_unit.Unit → Unit
unit_of = fold-Unit Unit Assertion Conjunction Disjunction unit_step assertion_step conjunction_step
    disjunction_step

abbrev pub definition_of : declared_named.Named → Definition
definition_of d = record
    { name = d.name; parameters = d.parameters.items; assertion = assertion_of d.assertion }

abbrev pub note_of : declared_note.Note → Note
note_of n = record { place = n.span; value = assertion_of n.assertion }

-- ---- statements

abbrev pub basic_of : declared_basic.Basic → Basic
basic_of basics.Skip = Skip
basic_of (basics.Assign name index sum) = Assign name (option_map expression_of index) (sum_of sum)

abbrev pub simple_of : declared_element.Element → Simple
simple_of e =
    record { binder = option_map binder_of e.binder; basic = basic_of e.basic; place = e.span }

abbrev pub steps_then : List Step → Steps
steps_then [] = no_step
steps_then (s ∷ others) = step s (steps_then others)

abbrev pub choice : Assertion → Sequence → Option Sequence → Statement
choice test branch None = If test branch
choice test branch (Some other) = IfElse test branch other

abbrev pub statement_step : Statement-F Statement Step Sequence → Statement
statement_step (Statement-F.Basic b) = Once (basic_of b)
statement_step (Statement-F.If test branch other) = choice (assertion_of test) branch other
statement_step (Statement-F.While test body) = While (assertion_of test) body
statement_step (Statement-F.Await guard body) =
    Await (assertion_of guard) (map simple_of body.items)

abbrev pub sequence_step : Sequence-F Statement Step Sequence → Sequence
sequence_step s = sequence (note_of s.before) (steps_then s.steps.items)

abbrev pub step_step : Step-F Statement Step Sequence → Step
step_step (Step-F.Statement s span after) = Stated s span (note_of after)
step_step (Step-F.For binder steps) = Repeated (binder_of binder) (steps_then steps.items)

abbrev pub statement_of : declared_statement.Statement → Statement
statement_of = fold-Statement Statement Step Sequence statement_step step_step sequence_step

abbrev pub sequence_of : declared_sequence.Sequence → Sequence
sequence_of = fold-Sequence Statement Step Sequence statement_step step_step sequence_step

abbrev pub step_of : declared_step.Step → Step
step_of = fold-Step Statement Step Sequence statement_step step_step sequence_step
