-- What findings and a judgement hold.
use Rattle.std.specs.Prelude.{List}
use Rattle.og_typed.specs.Syntax.{Program}
use Rattle.og_judge.specs.declared.entry.Entry.{Entry}
use Rattle.og_judge.specs.declared.findings.Findings.{Findings}
use Rattle.og_judge.specs.declared.judgement.Judgement.{Judgement}

-- the outline whose conditions were looked at
abbrev pub looked_at : Findings → Program
looked_at f = f.verdict.outline

abbrev pub found_of : Findings → List Entry
found_of f = f.entries.items

abbrev pub outline_of : Judgement → Program
outline_of j = j.outline

abbrev pub entries_of : Judgement → List Entry
entries_of j = j.findings.entries.items
