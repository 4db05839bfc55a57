-- What a safe source promises of every run.
use Rattle.std.specs.Prelude.{List, ℕ}
use Rattle.og_typed.specs.Syntax.{Program}
use Rattle.og_typed.specs.Source.{IsSource}
use Rattle.og_theorem.specs.Sound.{IsSound, IsSoundErased}

-- some outline is that of the source, and every run of it is as promised, with its auxiliaries and without them
abbrev pub IsProvenSource : List ℕ → Type 0
IsProvenSource source = (o : Program) × IsSource source o × IsSound o × IsSoundErased o
