use Rattle.std.proofs.Common.{◌≡◌, ◌≢◌, ◌++◌, ◌<◌, ℕ, drop, take, get_or}
use Rattle.og_linear.specs.Linear.{FormValue}
use Rattle.og_linear.specs.Bounded.{map_set}
use Rattle.og_linear.proofs.map.Map.set.Given as goal

abbrev pub invariant-loop-i : goal.invariant-loop-i
invariant-loop-i l =
    (l.self-inside.entries.items ≡ l.fn.self) × (take l.i l.fn.self ++ map_set (drop l.i l.fn.self) l.var l.form ≡ map_set l.fn.self l.var l.form)
    × ((k : ℕ) → k < l.i → (d : ℕ × FormValue) → (get_or l.fn.self k d).0 ≢ l.var)
