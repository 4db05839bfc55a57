use Rattle.std.proofs.Common.{map}
use Rattle.og_cond.specs.Seen.{seen}
use Rattle.og_command_prove.proofs.Columns.{AreAdvisedTo}
use Rattle.og_command_prove.proofs.advising.Advisor.advice.Given as goal

abbrev pub invariant-loop-index : goal.invariant-loop-index
invariant-loop-index l = AreAdvisedTo (map seen l.conditions) l.diagnoses l.index l.all.items
