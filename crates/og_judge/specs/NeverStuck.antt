-- No run of the outline of a source gets stuck.
use Rattle.std.specs.Prelude.{List, ℕ}
use Rattle.og_typed.specs.Syntax.{Program}
use Rattle.og_typed.specs.Erase.{erased}
use Rattle.og_typed.specs.Source.{IsSource}
use Rattle.og_theorem.specs.NeverStuck.{IsNeverStuck}

-- some outline is that of the source, and no run of it gets stuck, with its auxiliaries or without them
abbrev pub IsNeverStuckSource : List ℕ → Type 0
IsNeverStuckSource source = (o : Program) × IsSource source o × IsNeverStuck o × IsNeverStuck (erased o)
