use Rattle.std.proofs.Common.{◌≡◌, ◌++◌, drop}
use Rattle.og_report_findings.specs.Suggested.{suggestion_lines}
use Rattle.og_report_findings.proofs.suggestion.put_suggestions.Given as goal

abbrev pub invariant-loop-suggestion : goal.invariant-loop-suggestion
invariant-loop-suggestion l =
    l.text.items ++ suggestion_lines l.names l.origins.source.now l.origins.rows (drop l.suggestion-index l.suggestions)
    ≡ l.initial.text.items ++ suggestion_lines l.names l.origins.source.now l.origins.rows l.suggestions
