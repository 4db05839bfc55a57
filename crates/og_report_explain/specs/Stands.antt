-- Where processes stand that have no step.
use Rattle.std.specs.Prelude.{◌≡◌, ◌⊎◌, false, ℤ, List}
use Rattle.std.specs.List.{All}
use Rattle.og_typed.specs.Syntax.{Program}
use Rattle.og_typed.specs.Machine.{Moment, IsReached}
use Rattle.og_typed.specs.Stuck.{IsStuck}
use Rattle.og_typed.specs.Seen.{IsOneOf, note_of, statement_of}
use Rattle.og_typed.specs.Sites.{all_notes}
use Rattle.og_report_explain.specs.declared.explanation.Stand.{Stand}
use Rattle.og_report_explain.specs.declared.explanation.Stand.TheVariants as stand
use Rattle.og_report_explain.specs.Explained.{IsTested, IsWaiting, IsTrueSite}

-- before an await whose guard is false, or at an assertion
abbrev pub IsPlace : Program → List ℤ → Stand → Type 0
IsPlace o s (stand.Waits site) = IsTested o s false (statement_of site)
IsPlace o s (stand.Ended site) = IsOneOf (all_notes o) (note_of site)

-- and the assertion there is true
abbrev pub IsStand : Program → List ℤ → Stand → Type 0
IsStand o s (stand.Waits site) = IsWaiting o s (statement_of site)
IsStand o s (stand.Ended site) = IsTrueSite o s (note_of site)

-- a run gets stuck in this state
abbrev pub GetsStuck : Program → List ℤ → Type 0
GetsStuck o s = (m : Moment) × IsReached o m × (m.state ≡ s) × IsStuck o m

-- where they may stand, as far as the assertions say; or places in a state in which a run gets stuck
abbrev pub AreStands : Program → List ℤ → List Stand → Type 0
AreStands o s stands = All (IsStand o s) stands ⊎ (GetsStuck o s × All (IsPlace o s) stands)
