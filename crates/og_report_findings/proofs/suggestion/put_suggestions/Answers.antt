use Rattle.std.proofs.Common.{◌++◌}
use Rattle.og_report_findings.specs.Suggested.{suggestion_lines}
use Rattle.og_report_findings.proofs.Suggestions.{one_more}
use Rattle.og_report_findings.proofs.suggestion.put_suggestions.Goals as goal

pub loop-suggestion-preserved : goal.loop-suggestion-preserved
loop-suggestion-preserved c =
    let names = c.args.names.now in
    let source = c.args.origins.now.source.now in
    let rows = c.args.origins.now.rows in
    let all = c.args.suggestions.now in
    one_more names source rows all c.loop-suggestion.suggestion-index c.suggestion-item.result c.loop-suggestion.text.items c.put_suggestion.new.text.items
    (c.args.text.now.items ++ suggestion_lines names source rows all) c.loop-suggestion-test.true c.suggestion-item.is c.in_ok-put_suggestion.ensures c.loop-suggestion.invariant
