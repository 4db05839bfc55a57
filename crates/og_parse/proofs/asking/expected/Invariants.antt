use Rattle.std.proofs.Common.{◌≡◌}
use Rattle.og_parse.specs.Expected.{GoesOn, AreThose}
use Rattle.og_parse.proofs.asking.expected.Given as goal

abbrev pub invariant-kinds : goal.invariant-kinds
invariant-kinds l = (l.before.items ≡ l.fn.before.items) × AreThose (GoesOn l.fn.before.items) l.yielded l.all.items
