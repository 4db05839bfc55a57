use Rattle.std.proofs.Common.{◌≡◌, map, drop}
use Rattle.og_template_expand.specs.Answer.{behind, gathered}
use Rattle.og_template_expand.specs.Ranges.{instance_of}
use Rattle.og_template_expand.specs.Sums as sums
use Rattle.og_template_expand.specs.Scoped.{scope_of}
use Rattle.og_template_expand.specs.TreeOf.{binder_of, signed_of, terms_then}
use Rattle.og_template_expand.proofs.sums.Signed.+terms.Given as goal

abbrev pub invariant-instances_of-loop-value : goal.invariant-instances_of-loop-value
invariant-instances_of-loop-value l =
    let each = instance_of (scope_of l.self.scope.now) (binder_of l.binder) (λ s. sums.terms_of s l.self.sign (terms_then (map signed_of l.terms))) in
    behind l.all.items (gathered each (drop l.value-index l.value-items)) ≡ gathered each l.value-items

abbrev pub invariant-put_terms-loop-term : goal.invariant-put_terms-loop-term
invariant-put_terms-loop-term l =
    behind l.all.items (sums.terms_of (scope_of l.self.scope.now) l.self.sign (terms_then (map signed_of (drop l.term-index l.terms))))
    ≡ behind l.fn.all.items (sums.terms_of (scope_of l.self.scope.now) l.self.sign (terms_then (map signed_of l.terms)))
