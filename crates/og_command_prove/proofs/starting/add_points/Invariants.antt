use Rattle.std.proofs.Common.{map}
use Rattle.og_explore.specs.From.{HaveLength}
use Rattle.og_command_prove.proofs.starting.add_points.Given as goal

abbrev pub invariant-loop-start : goal.invariant-loop-start
invariant-loop-start l = HaveLength l.outline.vars (map (λ x. x.items) l.lists.items)
