use Rattle.std.proofs.Common.{◌≡◌, ◌++◌, map, drop}
use Rattle.og_cond.specs.Seen.{seen}
use Rattle.og_judge.specs.Parts.{listed_from}
use Rattle.og_judge.proofs.judging.listed.Given as goal

abbrev pub invariant-loop-index : goal.invariant-loop-index
invariant-loop-index l =
    l.entries.items ++ listed_from (drop l.index (map seen l.conditions)) (drop l.index l.statuses) ≡ listed_from (map seen l.conditions) l.statuses
