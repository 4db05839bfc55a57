use mir.Syntax.{w64}
use mir.Val.{SFits, to_z, of_z}
use Rattle.std.proofs.Common.{pos, get_or, map, rules}
use Rattle.std.proofs.lemmas.Int.{to_z-of_z}
use Rattle.og_template_expand.specs.Ranges.{instance_of}
use Rattle.og_template_expand.specs.Scoped.{scope_of}
use Rattle.og_template_expand.specs.TreeOf.{binder_of}
use Rattle.og_template_expand.proofs.Lists.{gathered_turn}
use Rattle.og_template_expand.proofs.repeated.put_instances.Goals as goal

pub loop-value-preserved : goal.loop-value-preserved
loop-value-preserved g c =
    let each = instance_of (scope_of c.args.scope.now) (binder_of c.args.binder.now) (g.R.Repeated.means c.args.repeated.now) in
    let values = c.deref-value-items.result.now in
    let i = c.loop-value.value-index in
    let fit : SFits w64 (get_or values i (pos 0)) = search rules in
    let x = to_z w64 (of_z w64 (get_or values i (pos 0))) in
    gathered_turn each (map g.R.Repeated.view c.loop-value.all.items) (map g.R.Repeated.view c.put_instance.new.all.items) values i (pos 0) x _
    c.loop-value-test.true (to_z-of_z w64 _ fit) c.in_ok-put_instance.ensures c.loop-value.invariant
