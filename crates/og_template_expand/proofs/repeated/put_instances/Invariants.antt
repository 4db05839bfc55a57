use Rattle.std.proofs.Common.{◌≡◌, map, drop}
use Rattle.og_template_expand.specs.Answer.{behind, gathered}
use Rattle.og_template_expand.specs.Ranges.{instance_of}
use Rattle.og_template_expand.specs.Scoped.{scope_of}
use Rattle.og_template_expand.specs.TreeOf.{binder_of}
use Rattle.og_template_expand.proofs.repeated.put_instances.Given as goal

abbrev pub invariant-loop-value : goal.invariant-loop-value
invariant-loop-value g l =
    let each = instance_of (scope_of l.scope) (binder_of l.binder) (g.R.Repeated.means l.repeated) in
    behind (map g.R.Repeated.view l.all.items) (gathered each (drop l.value-index l.value-items)) ≡ behind (map g.R.Repeated.view l.fn.all.items) (gathered each l.value-items)
