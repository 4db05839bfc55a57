use Rattle.std.proofs.Common.{◌++◌, ◌+◌, drop, sym, ap, ◌∙◌, append_assoc}
use Rattle.og_typed.proofs.Behind.{drop_at}
use Rattle.og_report_explore.specs.Texts.{finding_text, findings_text}
use Rattle.og_report_explore.proofs.texts.put_findings.Goals as goal

pub loop-index-preserved : goal.loop-index-preserved
loop-index-preserved c =
    let names = c.args.page.names.now in
    let source = c.args.page.origins.now.source.now in
    let rows = c.args.page.origins.now.rows in
    let main = c.args.page.main in
    let at = c.args.cobegin_at in
    let findings = c.args.findings.now in
    let i = c.loop-index.index in
    let finding = c.index-findings-index.result in
    let rest = findings_text names source rows main at (drop (i + 1) findings) in
    ap (λ t. t ++ rest) c.in_ok-put_finding.ensures
    ∙ append_assoc c.loop-index.text.items (finding_text names source rows main at finding) rest
    ∙ ap (λ l. c.loop-index.text.items ++ findings_text names source rows main at l) (sym (drop_at findings i finding c.loop-index-test.true c.index-findings-index.is))
    ∙ c.loop-index.invariant
