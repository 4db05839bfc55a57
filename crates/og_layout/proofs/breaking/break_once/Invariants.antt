use Rattle.std.proofs.Common.{length, ◌-◌}
use Rattle.og_layout.proofs.breaking.break_once.Given as goal

abbrev pub decreases-lines : goal.decreases-lines
decreases-lines l = length l.initial.parts - l.from
