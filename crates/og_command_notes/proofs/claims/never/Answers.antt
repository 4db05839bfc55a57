use Rattle.std.proofs.Common.{map}
use Rattle.og_cond.specs.Seen.{hypothesis_of, part_of}
use Rattle.og_command_notes.proofs.Claiming.{never_true}
use Rattle.og_command_notes.proofs.claims.never.Goals as goal

pub returns : goal.returns
returns c = λ valid. never_true (map hypothesis_of c.in_ok-hypotheses.hypotheses.items) (map part_of c.args.facts.now) c.in_ok-hypotheses.ensures valid
