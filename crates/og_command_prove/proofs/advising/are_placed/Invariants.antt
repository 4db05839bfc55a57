use Rattle.std.proofs.Common.{◌≡◌, drop, map}
use Rattle.og_typed.specs.Plain.{noted}
use Rattle.og_command_prove.specs.Advice.{are_placed}
use Rattle.og_command_prove.proofs.advising.are_placed.Given as goal

abbrev pub invariant-loop-suggestion : goal.invariant-loop-suggestion
invariant-loop-suggestion l =
    are_placed (map (λ n. (noted n.now).at) l.known) (drop l.suggestion-index l.given) ≡ are_placed (map (λ n. (noted n.now).at) l.known) l.given
