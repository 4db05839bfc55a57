-- What an error of a judgement says of the texts.
use Rattle.std.specs.Prelude.{ℕ, List, ⊤}
use Rattle.og_typed.specs.Syntax.{Program}
use Rattle.og_report_text.specs.declared.fault.InputFault.{InputFault}
use Rattle.og_judge.specs.Entries.{AreRefused}
use Rattle.og_judge.specs.Report.{IsRefused}
use Rattle.og_judge.specs.declared.refusal.Refusal.{Refusal}
use Rattle.og_judge.specs.declared.refusal.Refusal.TheVariants as refusal

-- P of the fault; refused threads or memory say nothing
abbrev pub OnInput : (InputFault → Type 0) → Refusal → Type 0
OnInput P (refusal.Input fault) = P fault
OnInput P refusal.Spawn = ⊤
OnInput P refusal.Memory = ⊤

-- the fault of an outline and certificates
abbrev pub AreNotFound : List ℕ → Program → Refusal → Type 0
AreNotFound certs o = OnInput (AreRefused certs o)

-- that of a source and certificates
abbrev pub IsNotJudged : List ℕ → List ℕ → Refusal → Type 0
IsNotJudged source certs = OnInput (IsRefused source certs)
