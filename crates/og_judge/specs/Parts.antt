-- What the parts of a judgement may answer.
use Rattle.std.specs.Prelude.{◌≡◌, List, [], ◌∷◌}
use Rattle.og_typed.specs.Syntax.{Program}
use Rattle.og_cond.specs.Condition.{Condition}
use Rattle.og_cond.specs.Conditions.{conditions}
use Rattle.og_cert_text.specs.Files.{Entries}
use Rattle.og_pool.specs.declared.status.Status.{Status}
use Rattle.og_judge.specs.declared.entry.Entry.{Entry}
use Rattle.og_judge.specs.Entries.{entry_of, entries_from}

-- each condition with the status at its place
abbrev pub listed_from : List Condition → List Status → List Entry
listed_from [] ss = []
listed_from (c ∷ cs) [] = []
listed_from (c ∷ cs) (s ∷ ss) = entry_of c s ∷ listed_from cs ss

-- the entries of the conditions by some file
abbrev pub AreListed : Program → List Entry → Type 0
AreListed o entries = (file : Entries) × (entries ≡ entries_from 1 file (conditions o))
