-- Which process may step in a phase.
use Rattle.std.specs.Prelude.{ℕ, Bool, not, ◌&&◌}
use Rattle.og_typed.specs.Machine.{Moment, is_empty, Phase, Before, During, After, phase, is_last, todo}

-- process p may step in this phase
abbrev pub is_turn : Phase → Moment → ℕ → Bool
is_turn Before m p = is_last m p
is_turn During m p = not (is_last m p)
is_turn After m p = is_last m p

-- process p has something left and may not step yet
abbrev pub is_early : Moment → ℕ → Bool
is_early m p = not (is_empty (todo m p)) && not (is_turn (phase m) m p)
