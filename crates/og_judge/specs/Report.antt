-- The report of a source and a text of certificates: the first fault, or the status of each condition.
use Rattle.std.specs.Prelude.{ℕ, List}
use Rattle.og_typed.specs.Syntax.{Program}
use Rattle.og_typed.specs.Source.{IsSource}
use Rattle.og_typed.specs.Refused.{IsSourceFault}
use Rattle.og_report_text.specs.declared.fault.InputFault.{InputFault}
use Rattle.og_report_text.specs.declared.fault.InputFault.TheVariants as faults
use Rattle.og_judge.specs.declared.entry.Entry.{Entry}
use Rattle.og_judge.specs.Entries.{AreEntries, AreRefused}

-- the outline of the source, and the statuses of its conditions by the certificates of the text
pub record IsReport (source certs : List ℕ) (o : Program) (entries : List Entry) : Type 0 where
  pub outline : IsSource source o
  pub found : AreEntries certs o entries

-- an outline of the source, which is refused with these certificates
abbrev pub IsOutlineRefused : List ℕ → List ℕ → InputFault → Type 0
IsOutlineRefused source certs fault = (o : Program) × IsSource source o × AreRefused certs o fault

-- the first fault: of the source, and else of its outline and the certificates
abbrev pub IsRefused : List ℕ → List ℕ → InputFault → Type 0
IsRefused source certs (faults.Source fault) = IsSourceFault source fault
IsRefused source certs (faults.Conditions fault) = IsOutlineRefused source certs (faults.Conditions fault)
IsRefused source certs (faults.Certs fault) = IsOutlineRefused source certs (faults.Certs fault)
IsRefused source certs (faults.Stray n) = IsOutlineRefused source certs (faults.Stray n)
