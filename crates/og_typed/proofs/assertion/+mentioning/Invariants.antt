use Rattle.std.proofs.Common.{◌≡◌, drop, map}
use Rattle.og_typed.specs.Lists.{formula_list}
use Rattle.og_typed.specs.Plain.{formula}
use Rattle.og_typed.specs.Occurs.{occurs_in}
use Rattle.og_typed.proofs.assertion.+mentioning.Given as goal

abbrev pub invariant-some_mentions-loop-a : goal.invariant-some_mentions-loop-a
invariant-some_mentions-loop-a l = occurs_in l.var (formula_list (map formula (drop l.a-index l.all))) ≡ occurs_in l.var (formula_list (map formula l.all))
