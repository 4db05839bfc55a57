-- What a verdict says of the findings and of the runs behind it, and what a report says.
use Rattle.std.specs.Prelude.{◌≡◌, ℕ, List, Bool, true, false, Option, Some, None, codes, ◌↔◌, ⊤}
use Rattle.og_report_text.specs.Places.{◌&◌}
use Rattle.og_report_text.specs.Yes.{EndsWith}
use Rattle.og_report_prove.specs.Report.{is_safe, is_unblocked}
use Rattle.og_report_prove.specs.declared.diagnosis.Diagnosis.{Diagnosis}
use Rattle.og_report_runs.specs.declared.lines.Explored.{Explored}
use Rattle.og_violation.specs.declared.violation.Wrong.{Wrong}
use Rattle.og_violation.specs.declared.violation.Wrong.TheVariants as wrongs
use Rattle.og_report_findings.specs.Verdicts.{has_false, words_of, verdict_line}
use Rattle.og_report_findings.specs.declared.verdict.Conclusion.{Conclusion}
use Rattle.og_report_findings.specs.declared.verdict.Conclusion.TheVariants as conclusions

-- ---- what is known of the runs

-- this is wrong at the end of a run that was followed
abbrev pub EndsIn : Option Explored → Wrong → Type 0
EndsIn None wrong = ⊥
EndsIn (Some e) wrong = e.wrong ≡ Some wrong

-- all moments of all runs were looked at, and nothing is wrong at any
abbrev pub IsClosed : Option Explored → Type 0
IsClosed None = ⊥
IsClosed (Some e) = (e.complete ≡ true) × (e.wrong ≡ None)

-- no run was followed, or not all of them, and nothing wrong was met
abbrev pub IsUnknown : Option Explored → Type 0
IsUnknown None = ⊤
IsUnknown (Some e) = (e.complete ≡ false) × (e.wrong ≡ None)

-- ---- what is known of the conditions

-- it is not safe, and a condition is false
abbrev pub IsRefuted : List Diagnosis → Type 0
IsRefuted ts = (is_safe ts ≡ false) × (has_false ts ≡ true)

-- ---- what a conclusion says of both

abbrev pub IsExact : List Diagnosis → Option Explored → Conclusion → Type 0
IsExact ts e conclusions.Safe = (is_safe ts ≡ true) × (is_unblocked ts ≡ false)
IsExact ts e conclusions.NeverStuck = (is_safe ts ≡ true) × (is_unblocked ts ≡ true)
IsExact ts e conclusions.FalsePostcondition = IsRefuted ts × EndsIn e wrongs.Post
IsExact ts e conclusions.Overflow = IsRefuted ts × ((p : ℕ) × EndsIn e (wrongs.Overflow p))
IsExact ts e conclusions.Stuck = IsRefuted ts × EndsIn e wrongs.Stuck
IsExact ts e conclusions.FalseAssertion = IsRefuted ts × ((p : ℕ) × EndsIn e (wrongs.Assertion p))
IsExact ts e conclusions.TooWeak = IsRefuted ts × IsClosed e
IsExact ts e conclusions.Undecided = (is_safe ts ≡ false) × (has_false ts ≡ false)
IsExact ts e conclusions.NotShown = IsRefuted ts × IsUnknown e

-- ---- what a report says

-- how it ends: as JSON in its last member, as text in its last line
abbrev pub ending : Bool → Conclusion → List ℕ
ending true c = codes "\"verdict\":\"" & words_of c & codes "\"}\n"
ending false c = verdict_line c

-- it gives a verdict exactly where that is what the findings come to
abbrev pub IsExactReport : Bool → List Diagnosis → Option Explored → List ℕ → Type 0
IsExactReport json ts e text = (c : Conclusion) → EndsWith (ending json c) text ↔ IsExact ts e c
