-- What comes of an act of a process after a history.
use Rattle.std.specs.Prelude.{◌≡◌, ℕ, ◌<◌, ◌≤◌, Bool, true, false, List, [], ◌∷◌, ◌++◌, length, Some}
use Rattle.og_typed.specs.Machine.{Moment, todo, is_empty, overflows}
use Rattle.og_typed.specs.Turns.{is_early}
use Rattle.og_typed.specs.Stuck.{waits, IsStuck}
use Rattle.og_run.specs.Runs.{Given, moment_after}
use Rattle.og_run.specs.declared.turn.RunTurn.{RunTurn}
use Rattle.og_run.specs.declared.turn.RunTurn.TheVariants.{Overflow, Done, Stuck, Limit, Early, Waits, Moved}

-- process p has something left to do
abbrev pub HasLeft : Moment → ℕ → Type 0
HasLeft m p = is_empty (todo m p) ≡ false

-- and the program is not stuck
abbrev pub IsFree : Given → Moment → ℕ → Type 0
IsFree g m p = HasLeft m p × (IsStuck g.outline m → ⊥)

-- and the limit leaves room for a step
abbrev pub HasRoom : Given → List ℕ → Moment → ℕ → Type 0
HasRoom g h m p = IsFree g m p × (length h < g.limit)

-- and its part of the program has begun
abbrev pub IsNext : Given → List ℕ → Moment → ℕ → Type 0
IsNext g h m p = HasRoom g h m p × (is_early m p ≡ false)

-- the first that applies: each comes only where none of those before it does
abbrev pub IsTurnAt : Given → List ℕ → Moment → ℕ → RunTurn → Type 0
IsTurnAt g h m p Done = is_empty (todo m p) ≡ true
IsTurnAt g h m p Stuck = HasLeft m p × IsStuck g.outline m
IsTurnAt g h m p Limit = IsFree g m p × (g.limit ≤ length h)
IsTurnAt g h m p Early = HasRoom g h m p × (is_early m p ≡ true)
IsTurnAt g h m p Overflow = IsNext g h m p × (overflows m p ≡ true)
IsTurnAt g h m p Waits = IsNext g h m p × (overflows m p ≡ false) × (waits m p ≡ true)
IsTurnAt g h m p Moved = IsNext g h m p × (overflows m p ≡ false) × (waits m p ≡ false)

-- the history is a run, and this is the turn of process p at the moment to which it leads
abbrev pub IsTurn : Given → List ℕ → ℕ → RunTurn → Type 0
IsTurn g h p turn = (m : Moment) × (moment_after g h ≡ Some m) × IsTurnAt g h m p turn

-- once a process has overflowed, every turn is Overflow
abbrev pub Answers : Bool → Given → List ℕ → ℕ → RunTurn → Type 0
Answers true g h p turn = turn ≡ Overflow
Answers false g h p turn = IsTurn g h p turn

-- some process overflows after the history
abbrev pub SomeOverflows : Given → List ℕ → Type 0
SomeOverflows g h = (q : ℕ) × IsTurn g h q Overflow

-- only Moved adds to the history: the process that stepped
abbrev pub after_turn : RunTurn → List ℕ → ℕ → List ℕ
after_turn Moved h p = h ++ p ∷ []
after_turn _ h p = h

abbrev pub is_overflow : RunTurn → Bool
is_overflow Overflow = true
is_overflow _ = false
