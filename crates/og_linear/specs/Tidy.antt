-- Terms in order: one for each variable, and none with coefficient 0.
use Rattle.std.specs.Prelude.{◌≢◌, ℕ, ◌+◌, ◌<◌, pos, [], ◌∷◌, ⊤}
use Rattle.og_linear.specs.Linear.{Terms}

-- the variables rise from low on, and no coefficient is 0
abbrev pub IsTidyFrom : ℕ → Terms → Type 0
IsTidyFrom low [] = ⊤
IsTidyFrom low (t ∷ ts) = (low < t.0 + 1) × (t.1 ≢ pos 0) × IsTidyFrom (t.0 + 1) ts

abbrev pub IsTidy : Terms → Type 0
IsTidy = IsTidyFrom 0
