-- Conditions by number, with what is found of each.
use Rattle.std.specs.Prelude.{ℕ, ◌+◌, List, [], ◌∷◌, ◌++◌, if◌then◌else◌}
use Rattle.og_cond.specs.Condition.{Condition}
use Rattle.og_cond.specs.Seen.{seen}
use Rattle.og_report_findings.specs.declared.entry.Entry.{Entry as Given}
use Rattle.og_report_prove.specs.Report.{is_proved}
use Rattle.og_report_prove.specs.declared.diagnosis.Diagnosis.{Diagnosis}
use Rattle.og_report_runs.specs.declared.witness.Run.{Run}

pub record Entry : Type 0 where
  pub number : ℕ
  pub condition : Condition
  pub diagnosis : Diagnosis
  pub run : Run

abbrev pub entry_of : Given → Entry
entry_of e = record {
  number = e.number;
  condition = seen e.condition.now;
  diagnosis = e.diagnosis.now;
  run = e.run.now;
}

-- nothing of one that is proved
abbrev pub if_unproved : Entry → List Entry
if_unproved e = if is_proved e.diagnosis then [] else e ∷ []

-- those that are not proved, where all are numbered from n
abbrev pub unproved_from : ℕ → List Condition → List Diagnosis → List Run → List Entry
unproved_from n [] ts rs = []
unproved_from n (c ∷ cs) [] rs = []
unproved_from n (c ∷ cs) (t ∷ ts) [] = []
unproved_from n (c ∷ cs) (t ∷ ts) (r ∷ rs) =
    if_unproved (record { number = n; condition = c; diagnosis = t; run = r }) ++ unproved_from (n + 1) cs ts rs
