use Rattle.std.proofs.Common.{[], length, unwrap_or, sym, ap, ◌∙◌}
use Rattle.og_report_explore.specs.Findings.{assigned_below}
use Rattle.og_report_explore.proofs.Tables.{nothing_below}
use Rattle.og_report_explore.proofs.rows.assigned_by.Goals as goal

pub returns-in-None : goal.returns-in-None
returns-in-None c =
    let n = length c.args.outline.now.names in
    c.new.ensures.items
    ∙ sym (nothing_below n c.args.state.now)
    ∙ ap (λ body. assigned_below n (unwrap_or body []) c.args.state.now) c.in-None.ensures.body
