-- What the findings come to.
use Rattle.std.specs.Prelude.{ℕ, List, Bool, true, false, if◌then◌else◌, Option, Some, None, codes}
use Rattle.std.specs.List.{list_any}
use Rattle.og_report_text.specs.Places.{◌&◌}
use Rattle.og_report_prove.specs.Report.{is_false, is_safe, is_unblocked}
use Rattle.og_report_prove.specs.declared.diagnosis.Diagnosis.{Diagnosis}
use Rattle.og_report_runs.specs.declared.lines.Explored.{Explored}
use Rattle.og_violation.specs.declared.violation.Wrong.{Wrong}
use Rattle.og_violation.specs.declared.violation.Wrong.TheVariants as wrongs
use Rattle.og_report_findings.specs.declared.verdict.Conclusion.{Conclusion}
use Rattle.og_report_findings.specs.declared.verdict.Conclusion.TheVariants as conclusions

abbrev pub has_false : List Diagnosis → Bool
has_false = list_any is_false

-- by what is wrong at the end of a run
abbrev pub of_wrong : Wrong → Conclusion
of_wrong (wrongs.Assertion p) = conclusions.FalseAssertion
of_wrong (wrongs.Overflow p) = conclusions.Overflow
of_wrong wrongs.Post = conclusions.FalsePostcondition
of_wrong wrongs.Stuck = conclusions.Stuck

-- nothing is wrong: in any run where all were followed
abbrev pub by_wrong : Option Wrong → Bool → Conclusion
by_wrong (Some wrong) complete = of_wrong wrong
by_wrong None true = conclusions.TooWeak
by_wrong None false = conclusions.NotShown

abbrev pub by_runs : Option Explored → Conclusion
by_runs None = conclusions.NotShown
by_runs (Some e) = by_wrong e.wrong e.complete

-- where not every condition but the last is proved
abbrev pub if_unsafe : List Diagnosis → Option Explored → Conclusion
if_unsafe ts e = if has_false ts then by_runs e else conclusions.Undecided

abbrev pub concluded : List Diagnosis → Option Explored → Conclusion
concluded ts e =
    if is_safe ts then (if is_unblocked ts then conclusions.NeverStuck else conclusions.Safe) else if_unsafe ts e

abbrev pub words_of : Conclusion → List ℕ
words_of conclusions.Safe = codes "safe in every run"
words_of conclusions.NeverStuck = codes "safe in every run, and never stuck"
words_of conclusions.FalsePostcondition = codes "the program is wrong: a run ends in a false postcondition"
words_of conclusions.Overflow = codes "the program is wrong: a run overflows"
words_of conclusions.Stuck = codes "the program is wrong: a run gets stuck"
words_of conclusions.FalseAssertion = codes "an assertion is false in a run"
words_of conclusions.TooWeak = codes "too weak: no run from these starts makes an assertion false"
words_of conclusions.Undecided = codes "not shown: no proof and no state within the budget"
words_of conclusions.NotShown = codes "not shown"

abbrev pub verdict_line : Conclusion → List ℕ
verdict_line c = codes "verdict: " & words_of c & codes "\n"
