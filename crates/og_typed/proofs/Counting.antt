-- The loop over a list that is resolved in turn, up to a limit.
use Rattle.std.proofs.Common.{List, ◌++◌}
use Rattle.std.specs.Prelude.{Ok}
use Rattle.og_typed.specs.Resolved.{Checked, ◌>>=◌}

-- the values after others
abbrev pub front : {Y : Type 0} → List Y → Checked (List Y) → Checked (List Y)
front ys answer = answer >>= λ rest. Ok (ys ++ rest)
