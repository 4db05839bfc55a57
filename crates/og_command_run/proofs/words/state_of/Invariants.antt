use Rattle.std.proofs.Common.{◌≡◌, ◌++◌, drop, map, pos, unwrap_or}
use Rattle.og_command_run.proofs.words.state_of.Given as goal

abbrev pub invariant-loop-value : goal.invariant-loop-value
invariant-loop-value l = l.values.items ++ map (λ v. unwrap_or v (pos 0)) (drop l.value-index l.given) ≡ map (λ v. unwrap_or v (pos 0)) l.given
