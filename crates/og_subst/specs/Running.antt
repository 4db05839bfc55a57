-- The map and the values of an action, made together, one assignment after another.
use Rattle.std.specs.Prelude.{ℕ, List, [], ◌∷◌, ◌++◌, Option, Some, option_and_then, option_map}
use Rattle.og_linear.specs.Linear.{FormValue}
use Rattle.og_linear.specs.Bounded.{map_set, apply}
use Rattle.og_typed.specs.Syntax.{Simple, Pass, Set}
use Rattle.og_subst.specs.Prepared.{Prepared, prepared}

abbrev pub nothing : Prepared
nothing = prepared [] []

-- the variable x gets e under the map so far
abbrev pub assigned : Prepared → ℕ → FormValue → Option Prepared
assigned p x e = option_map (λ v. prepared (map_set p.map x v) (p.values ++ v ∷ [])) (apply p.map e)

abbrev pub step : Simple → Prepared → Option Prepared
step Pass p = Some p
step (Set x e) p = assigned p x e

abbrev pub run : List Simple → Prepared → Option Prepared
run [] p = Some p
run (b ∷ rest) p = option_and_then (run rest) (step b p)
