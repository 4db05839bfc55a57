-- Runs within a limit, and what boards tell of a history.
use Rattle.std.specs.Prelude.{◌≡◌, ℕ, ◌+◌, ◌≤◌, ℤ, List, [], ◌∷◌, ◌||◌, length, Some, is_some, if◌then◌else◌, ◌==◌, refl}
use Rattle.std.specs.Coded.{Coded, code_by, coded×, coded_ℕ, coded_ℤ, coded_list}
use Rattle.og_typed.specs.Syntax.{Program}
use Rattle.og_typed.specs.Codes.{program_code}
use Rattle.og_typed.specs.Machine.{Moment, IsStart}
use Rattle.og_run.specs.Runs.{Given, moment_after}

abbrev pub given_code : Coded Given
given_code =
    code_by (Program × (List ℤ × ℕ)) (coded× program_code (coded× (coded_list coded_ℤ) coded_ℕ)) (λ g. (g.outline, (g.values, g.limit))) (λ p. record { outline = p.0; values = p.1.0; limit = p.1.1 }) (λ _. refl)

-- how many processes there are; the main process, where there is one, has the last number
abbrev pub process_count : Program → ℕ
process_count o = length o.processes + (if is_some o.prologue || is_some o.epilogue then 1 else 0)

-- how often process p stands in the history
abbrev pub moves_of : ℕ → List ℕ → ℕ
moves_of p [] = 0
moves_of p (q ∷ qs) = (if q == p then 1 else 0) + moves_of p qs

-- the history is a run within the limit: it begins in the precondition, and each of its numbers is a step
pub record IsRun (g : Given) (h : List ℕ) : Type 0 where
  pub begins : IsStart g.outline g.values
  pub short : length h ≤ g.limit
  pub last : Moment
  pub leads : moment_after g h ≡ Some last
