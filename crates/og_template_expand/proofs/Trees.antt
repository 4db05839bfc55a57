-- The trees of values that hold a `Vec`.
use Rattle.std.proofs.Common.{◌≡◌, map, Vec, Box, Global, sym, ap, ◌∙◌}
use Rattle.og_template.specs.declared.tree.Binder.{Binder}
use Rattle.og_template.specs.declared.tree.Term.{Term}
use Rattle.og_template.specs.declared.tree.TermKind.TheOpen.{TermKind-F}
use Rattle.og_template.specs.declared.tree.TermKind.TheViews as views
use Rattle.og_template.specs.declared.tree.TermKind.TheFolds.{fold-roll-TermKind}
use Rattle.og_text.specs.declared.place.Span.{Span}
use Rattle.og_template.specs.declared.tree.Unit as declared_unit
use Rattle.og_template.specs.declared.tree.Unit.TheOpen.{Unit-F}
use Rattle.og_template.specs.declared.tree.Unit.TheViews as unit_views
use Rattle.og_template.specs.declared.tree.Unit.TheFolds.{fold-roll-Unit}
use Rattle.og_template.specs.declared.tree.Step.{Step}
use Rattle.og_template.specs.declared.tree.Statement.TheOpen.{Step-F}
use Rattle.og_template.specs.declared.tree.Statement.TheViews as step_views
use Rattle.og_template.specs.declared.tree.Statement.TheFolds.{fold-roll-Step}
use Rattle.og_template_expand.specs.Trees as template
use Rattle.og_template_expand.specs.Trees.{Kind, Total, Repeated}
use Rattle.og_template_expand.specs.TreeOf.{Signed, kind_step, term_step, binder_of, signed_of, kind_of, terms_then, statement_step, step_step, sequence_step, step_of, steps_then, unit_step, assertion_step, conjunction_step, disjunction_step, unit_of}

pub tree_total : (binder : Binder) (terms : Vec Term Global) → kind_of (views.Total binder terms) ≡ Total (binder_of binder) (terms_then (map signed_of terms.items))
tree_total binder terms = ap kind_of (sym (views.rolls-Total binder terms)) ∙ fold-roll-TermKind Kind Signed kind_step term_step (TermKind-F.Total binder terms)

pub tree_for : (binder : Binder) (steps : Vec Step Global) → step_of (step_views.For binder steps) ≡ Repeated (binder_of binder) (steps_then (map step_of steps.items))
tree_for binder steps = ap step_of (sym (step_views.rolls-For binder steps)) ∙ fold-roll-Step template.Statement template.Step template.Sequence statement_step step_step sequence_step (Step-F.For binder steps)

pub tree_all : (place : Span) (binder : Binder) (inner : Box declared_unit.Unit Global) → unit_of (unit_views.All place binder inner) ≡ template.All place (binder_of binder) (unit_of inner.value)
tree_all place binder inner = ap unit_of (sym (unit_views.rolls-All place binder inner)) ∙ fold-roll-Unit template.Unit template.Assertion template.Conjunction template.Disjunction unit_step assertion_step conjunction_step disjunction_step (Unit-F.All place binder inner)

pub tree_any : (place : Span) (binder : Binder) (inner : Box declared_unit.Unit Global) → unit_of (unit_views.Any place binder inner) ≡ template.Any place (binder_of binder) (unit_of inner.value)
tree_any place binder inner = ap unit_of (sym (unit_views.rolls-Any place binder inner)) ∙ fold-roll-Unit template.Unit template.Assertion template.Conjunction template.Disjunction unit_step assertion_step conjunction_step disjunction_step (Unit-F.Any place binder inner)
