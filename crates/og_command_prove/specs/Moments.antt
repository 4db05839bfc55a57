-- The moments of runs from some starts, and what diagnoses are made with.
use Rattle.std.specs.Prelude.{◌≡◌, ◌≤◌, ◌+◌, true, map, length}
use Rattle.og_typed.specs.Syntax.{Program}
use Rattle.og_explore.specs.Safety.{IsSafety}
use Rattle.og_command_prove.specs.Found.{Starts, AreAll, most_steps}
use Rattle.og_command_prove.specs.declared.diagnoser.Moments.{Moments}
use Rattle.og_command_prove.specs.declared.diagnoser.Diagnoser.{Diagnoser}

abbrev pub lists_of : Moments → Starts
lists_of m = map (λ l. l.items) m.lists.items

-- they are moments of the outline, all of them where that is said, by no more steps than are tried
pub record AreMoments (o : Program) (m : Moments) : Type 0 where
  pub outline : m.reach.moments.at.outline ≡ o
  pub all : m.reach.complete ≡ true → AreAll o (lists_of m) m.reach.moments.keys
  pub few : length m.reach.moments.keys ≤ m.reach.starts + most_steps
  pub safety : IsSafety o (lists_of m) m.reach.safety

-- the places are those of the outline
abbrev pub IsDiagnoser : Diagnoser → Type 0
IsDiagnoser t = t.index.now ≡ t.outline.now
