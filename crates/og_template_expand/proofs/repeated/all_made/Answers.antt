use Rattle.std.proofs.Common.{map}
use Rattle.og_template_expand.specs.Repeated.{repeated_by}
use Rattle.og_template_expand.specs.Scoped.{scope_of}
use Rattle.og_template_expand.proofs.Lists.{gathered_turn}
use Rattle.og_template_expand.proofs.repeated.all_made.Goals as goal

pub loop-part-preserved : goal.loop-part-preserved
loop-part-preserved g c =
    let each = λ (r : g.row.R.Denot). repeated_by (scope_of c.args.scope.now) (g.R.Repeated.binds r) (g.R.Repeated.means r) in
    let x = c.part-item.result in
    gathered_turn each (map g.R.Repeated.view c.loop-part.all.items) (map g.R.Repeated.view c.put.new.all.items) c.args.parts.now c.loop-part.part-index x x _
    c.loop-part-test.true c.part-item.is c.in_ok-put.ensures c.loop-part.invariant
