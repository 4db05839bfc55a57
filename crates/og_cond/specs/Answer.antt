-- What a call that lists conditions may answer.
use Rattle.std.specs.Prelude.{◌≡◌, ℕ, ◌≤◌, ◌<◌, List, length, map, Result, Ok, Err, Vec}
use Rattle.std.specs.Global.{Global}
use Rattle.og_cond.specs.Condition as plain
use Rattle.og_cond.specs.Seen.{seen}
use Rattle.og_cond.specs.declared.condition.Condition.{Condition}
use Rattle.og_cond.specs.declared.fault.ConditionsError.{ConditionsError}
use Rattle.og_cond.specs.declared.fault.ConditionsError.TheVariants as errors

-- all of the list, which is within the limit; the fault exactly where it is not; or memory ran out
abbrev pub IsListed : ℕ → List plain.Condition → Result (Vec Condition Global) ConditionsError → Type 0
IsListed limit all (Ok list) = (map seen list.items ≡ all) × (length all ≤ limit)
IsListed limit all (Err (errors.Fault fault)) = limit < length all
IsListed limit all (Err errors.Memory) = length all ≤ limit
