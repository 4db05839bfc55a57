use Rattle.std.proofs.Common.{IfOk, sym, subst}
use Rattle.og_report_html.specs.Lanes.{IsChart, IsChartOf}
use Rattle.og_report_html.proofs.run_texts.Search.chart_of.Goals as goal

pub returns-in-Reached : goal.returns-in-Reached
returns-in-Reached c =
    let o = c.args.self.now.outline.now in
    let source = c.args.self.now.source.now in
    subst (λ r. IfOk c.chart.result (λ text. IsChartOf o source c.args.condition r text.items)) (sym c.in-Reached.is)
    (subst (λ w. IfOk c.chart.result (λ text. IsChart o source c.args.condition w text.items)) c.deref.ensures c.chart.ensures)
