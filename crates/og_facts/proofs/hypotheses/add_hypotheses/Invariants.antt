use Rattle.std.proofs.Common.{◌≡◌, drop, map}
use Rattle.og_cond.specs.Seen.{hypothesis_of}
use Rattle.og_facts.specs.Answer.{shown, added_to}
use Rattle.og_facts.specs.Walk.{walk_hypotheses}
use Rattle.og_facts.proofs.hypotheses.add_hypotheses.Given as goal

abbrev pub invariant-loop-hypothesis : goal.invariant-loop-hypothesis
invariant-loop-hypothesis l =
    added_to (shown l.facts) (walk_hypotheses (map hypothesis_of (drop l.hypothesis-index l.hypotheses)))
    ≡ added_to (shown l.fn.facts) (walk_hypotheses (map hypothesis_of l.hypotheses))
