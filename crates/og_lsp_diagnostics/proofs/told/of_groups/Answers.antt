use Rattle.og_report_findings.specs.Causes.{groups_of}
use Rattle.og_lsp_diagnostics.specs.Said.{text_of, rows_of}
use Rattle.og_lsp_diagnostics.proofs.Groups.{none_left}
use Rattle.og_lsp_diagnostics.proofs.told.of_groups.Goals as goal

pub returns-clause-said : goal.returns-clause-said
returns-clause-said c =
    let page = c.args.teller.now.page in
    let gs = c.args.groups.now in
    none_left (text_of page) (rows_of page) gs c.loop-group.group-index (groups_of gs) c.loop-group.diagnostics.items c.loop-group-test.false c.loop-group.invariant.said
