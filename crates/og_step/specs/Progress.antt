-- A moment of an outline, and what every one meets.
use Rattle.std.specs.Prelude.{◌≡◌, ℕ, List, true, false, not, is_some, length, refl}
use Rattle.std.specs.List.{AllByRecursion, count_by}
use Rattle.std.specs.Coded.{Coded, code_by, coded×}
use Rattle.og_typed.specs.Syntax.{Program, Rest}
use Rattle.og_typed.specs.Codes.{program_code, moment_code}
use Rattle.og_typed.specs.Machine.{Moment, is_empty}
use Rattle.og_step.specs.Turns.{AreUsable}

-- an outline, and a moment of it
pub record Progress : Type 0 where
  pub outline : Program
  pub moment : Moment

abbrev pub progress_code : Coded Progress
progress_code =
    code_by (Program × Moment) (coded× program_code moment_code) (λ a. (a.outline, a.moment)) (λ p. record { outline = p.0; moment = p.1 }) (λ _. refl)

-- how many of the rests have something left
abbrev pub left_in : List Rest → ℕ
left_in = count_by (λ rest. not (is_empty rest))

-- one rest for each process, none for an absent part of the main process, and a value for each variable
pub record IsKept (o : Program) (m : Moment) : Type 0 where
  pub count : length m.rests ≡ length o.processes
  pub no_prologue : is_some o.prologue ≡ false → is_empty m.prologue ≡ true
  pub no_epilogue : is_some o.epilogue ≡ false → is_empty m.epilogue ≡ true
  pub long : length m.state ≡ length o.names
  pub prologue_usable : AreUsable (length o.names) m.prologue
  pub usable : AllByRecursion (AreUsable (length o.names)) m.rests
  pub epilogue_usable : AreUsable (length o.names) m.epilogue
