use Rattle.std.proofs.Common.{◌≡◌, drop, map}
use Rattle.og_typed.specs.Plain.{noted}
use Rattle.og_command_prove.specs.Advice.{has_place}
use Rattle.og_command_prove.proofs.advising.has_place.Given as goal

abbrev pub invariant-loop-note : goal.invariant-loop-note
invariant-loop-note l =
    has_place (map (λ n. (noted n.now).at) (drop l.note-index l.known)) l.at ≡ has_place (map (λ n. (noted n.now).at) l.known) l.at
