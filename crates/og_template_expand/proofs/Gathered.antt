-- What is made once or in each instance of a binder, in lists.
use Rattle.std.proofs.Common.{◌≡◌, List, [], ◌∷◌, Ok, Err, Option, Some, None, map, refl, ap, ◌∙◌}
use Rattle.std.specs.Prelude.{Result}
use Rattle.og_text.specs.declared.place.Span.{Span}
use Rattle.og_template.specs.declared.tree.Element.{Element}
use Rattle.og_template.specs.declared.tree.Process.{Process}
use Rattle.og_parse.specs.Trees as outline
use Rattle.og_template_expand.specs.declared.fault.Stop.{Stop}
use Rattle.og_template_expand.specs.Trees.{Binder, Basic, Sequence}
use Rattle.og_template_expand.specs.TreeOf.{binder_of, basic_of, simple_of, sequence_of}
use Rattle.og_template_expand.specs.WholeOf.{process_of}
use Rattle.std.specs.Prelude.{option_map}
use Rattle.og_template_expand.specs.Answer.{Checked, ◌>>=◌, gathered}
use Rattle.og_template_expand.specs.Scope.{Scope}
use Rattle.og_template_expand.specs.Scoped.{IsExpanded}
use Rattle.og_template_expand.specs.Repeated.{repeated_by}
use Rattle.og_template_expand.specs.Statements as statements
use Rattle.og_template_expand.specs.Outline as whole
use Rattle.og_template_expand.proofs.Lists.{then, fails_then}

gathered_mapped : {R X Y : Type 0} (f : R → Checked (List Y)) (g : X → Checked (List Y)) (tree : R → X) → ((r : R) → f r ≡ g (tree r)) → (rs : List R) → gathered f rs ≡ gathered g (map tree rs)
gathered_mapped f g tree same [] = refl
gathered_mapped f g tree same (r ∷ rs) = ap (λ a. then a (gathered f rs)) (same r) ∙ ap (then (g (tree r))) (gathered_mapped f g tree same rs)

simple_repeated : (scope : Scope) (binder : Option Binder) (basic : Basic) (place : Span) → repeated_by scope binder (λ s. statements.simple_in s basic place) ≡ statements.simple_by scope binder basic place
simple_repeated scope None basic place = refl
simple_repeated scope (Some binder) basic place = refl

process_repeated : (scope : Scope) (binder : Option Binder) (body : Sequence) → repeated_by scope binder (whole.one_process body) ≡ whole.process_by scope binder body
process_repeated scope None body = refl
process_repeated scope (Some binder) body = refl

pub elements_gathered : (scope : Scope) (elements : List Element) → gathered (λ e. repeated_by scope (option_map binder_of e.binder) (λ s. statements.simple_in s (basic_of e.basic) e.span)) elements ≡ gathered (statements.simple_of scope) (map simple_of elements)
elements_gathered scope elements = gathered_mapped _ (statements.simple_of scope) simple_of (λ e. simple_repeated scope (option_map binder_of e.binder) (basic_of e.basic) e.span) elements

pub processes_gathered : (scope : Scope) (processes : List Process) → gathered (λ p. repeated_by scope (option_map binder_of p.binder) (whole.one_process (sequence_of p.body))) processes ≡ gathered (whole.process_of scope) (map process_of processes)
processes_gathered scope processes = gathered_mapped _ (whole.process_of scope) process_of (λ p. process_repeated scope (option_map binder_of p.binder) (sequence_of p.body)) processes

-- one part as a list
pub one_made : {X Y : Type 0} (view : X → Y) (result : Result X Stop) (answer : Checked Y) → IsExpanded view result answer → IsExpanded (λ x. view x ∷ []) result (answer >>= λ y. Ok (y ∷ []))
one_made view (Ok x) answer is = ap (λ (a : Checked _). a >>= λ y. Ok (y ∷ [])) is
one_made view (Err e) answer fails = fails_then e answer (λ y. Ok (y ∷ [])) fails
