-- The order of the blocks.
use Rattle.std.specs.Prelude.{◌≡◌, ℕ, ◌<◌, ◌⊎◌, List, ◌++◌, Bool, true, false, filter, IsPermutation, AllPairs}
use Rattle.og_report_findings.specs.Entries.{Entry}
use Rattle.og_report_runs.specs.declared.witness.Run.{Run}
use Rattle.og_report_runs.specs.declared.witness.Run.TheVariants as run

abbrev pub is_reached : Run → Bool
is_reached (run.Reached w) = true
is_reached run.Never = false
is_reached run.Open = false

abbrev pub is_never : Run → Bool
is_never (run.Reached w) = false
is_never run.Never = true
is_never run.Open = false

abbrev pub is_open : Run → Bool
is_open (run.Reached w) = false
is_open run.Never = false
is_open run.Open = true

-- those to which a run gets first, then those of which nothing is known, then those to which none gets
abbrev pub in_order : List Entry → List Entry
in_order es =
    filter (λ e. is_reached e.run) es ++ (filter (λ e. is_open e.run) es ++ filter (λ e. is_never e.run) es)

-- ---- what is true of it

-- first what a run gets to, then that of which nothing is known, then what no run gets to
abbrev pub rank : Run → ℕ
rank (run.Reached w) = 0
rank run.Open = 1
rank run.Never = 2

-- by rank, and in a rank by number
abbrev pub StandsBefore : Entry → Entry → Type 0
StandsBefore a b = (rank a.run < rank b.run) ⊎ ((rank a.run ≡ rank b.run) × (a.number < b.number))

-- the same conditions, each before all behind it
pub record IsInOrder (es ordered : List Entry) : Type 0 where
  pub same : IsPermutation es ordered
  pub before : AllPairs StandsBefore ordered
