use Rattle.std.proofs.Common.{◌≡◌, map, drop}
use Rattle.og_template_expand.specs.Answer.{behind, gathered}
use Rattle.og_template_expand.specs.Repeated.{repeated_by}
use Rattle.og_template_expand.specs.Scoped.{scope_of}
use Rattle.og_template_expand.proofs.repeated.all_made.Given as goal

abbrev pub invariant-loop-part : goal.invariant-loop-part
invariant-loop-part g l =
    let each = λ (r : g.row.R.Denot). repeated_by (scope_of l.scope) (g.R.Repeated.binds r) (g.R.Repeated.means r) in
    behind (map g.R.Repeated.view l.all.items) (gathered each (drop l.part-index l.parts)) ≡ gathered each l.parts
