use Rattle.std.proofs.Common.{subst}
use Rattle.og_explore.specs.Safety.{IsSafety}
use Rattle.og_command_prove.specs.Moments.{lists_of}
use Rattle.og_command_prove.proofs.Reaches.{is_reach, if_violated, if_safe, if_unknown}
use Rattle.og_command_prove.proofs.searching.explored_of.Goals as goal
use Rattle.og_command_prove.proofs.searching.explored_of.Goals.{in-Violated, in-Safe, in-Unknown}

pub returns : goal.returns
returns c =
    let o = c.args.outline.now in
    let m = c.args.moments.now in
    let S = IsSafety o (lists_of m) in
    is_reach o m c.requires c.len.result c.len.ensures.value c.match-reach.wrong
    (elim c.match-reach.branch [
      | in-Violated w ↦ if_violated o m w.in-Violated.violation (subst S w.in-Violated.is c.requires.safety) c.match-reach.wrong w.wrong-is
      | in-Safe w ↦ if_safe o m (subst S w.in-Safe.is c.requires.safety) c.match-reach.wrong w.wrong-is
      | in-Unknown w ↦ if_unknown o m c.match-reach.wrong w.wrong-is
    ])
