-- Where a board stands.
use Rattle.std.specs.Prelude.{◌≡◌, ℕ, ◌≤◌, List, [], length, Option, Some, None, Result, Ok, Err, IfSome, slice_get, refl}
use Rattle.std.specs.Coded.{Coded, code_by, coded×, coded_ℕ, coded_list, coded_option}
use Rattle.og_typed.specs.Machine.{IsStart}
use Rattle.og_step.specs.Progress.{Progress}
use Rattle.og_step.specs.Starts.{start_fault}
use Rattle.og_step.specs.Answered.{FailsAs}
use Rattle.og_step.specs.declared.fault.StartError.{StartError}
use Rattle.og_run.specs.Runs.{Given, moment_after}
use Rattle.og_run.specs.Histories.{given_code, process_count, moves_of}
use Rattle.og_run.specs.Turns.{IsTurn, after_turn}
use Rattle.og_run.specs.declared.turn.RunTurn.{RunTurn}
use Rattle.og_run.specs.declared.turn.RunTurn.TheVariants.{Overflow}

-- what was given, the history, and the process that overflowed, if one did
pub record Standing : Type 0 where
  pub given : Given
  pub history : List ℕ
  pub halted : Option ℕ

abbrev pub standing_code : Coded Standing
standing_code =
    code_by (Given × (List ℕ × Option ℕ)) (coded× given_code (coded× (coded_list coded_ℕ) (coded_option coded_ℕ))) (λ s. (s.given, (s.history, s.halted))) (λ p. record { given = p.0; history = p.1.0; halted = p.1.1 }) (λ _. refl)

-- the first process that overflowed stays noted
abbrev pub halted_after : RunTurn → Option ℕ → ℕ → Option ℕ
halted_after Overflow None p = Some p
halted_after _ halted p = halted

-- Moved appends the process to the history, the first Overflow notes it, and nothing else changes
abbrev pub stand_after : RunTurn → Standing → ℕ → Standing
stand_after turn s p = record { given = s.given; history = after_turn turn s.history p; halted = halted_after turn s.halted p }

-- one count for each process: how often it stands in the history
abbrev pub AreCounts : ℕ → List ℕ → List ℕ → Type 0
AreCounts processes h counts =
    (length counts ≡ processes) × ((p n : ℕ) → slice_get counts p ≡ Some n → n ≡ moves_of p h)

-- the history is a run within the limit that leads to the board's moment; a process that is noted overflows there
pub record IsBoard (s : Standing) (at : Progress) (counts : List ℕ) : Type 0 where
  pub begins : IsStart s.given.outline s.given.values
  pub short : length s.history ≤ s.given.limit
  pub few : s.given.limit ≤ 1000000
  pub outline : at.outline ≡ s.given.outline
  pub leads : moment_after s.given s.history ≡ Some at.moment
  pub few_processes : length counts ≤ 257
  pub counted : AreCounts (process_count s.given.outline) s.history counts
  pub noted : IfSome s.halted (λ q. IsTurn s.given s.history q Overflow)

-- a board with no history where the start has no fault, and else that fault; or memory ran out
abbrev pub Begins : Result Standing StartError → Given → Type 0
Begins (Ok s) g =
    (start_fault g.outline g.values ≡ None) × (s ≡ record { given = g; history = []; halted = None })
Begins (Err e) g = FailsAs e (start_fault g.outline g.values)
