use Rattle.std.proofs.Common.{◌≡◌, ◌∙◌, ℕ, List, IfSome, ap, subst, inr}
use Rattle.og_report_explore.specs.Findings.{AreRowsOf}
use Rattle.og_report_html.specs.Lanes.{chart_text}
use Rattle.og_report_html.proofs.charting.chart.Goals as goal

pub returns : goal.returns
returns c =
    let o = c.args.outline.now in
    let w = c.args.witness.now in
    let rows = c.in-Some.rows.items in
    let text = c.in_ok-text.text.items in
    let of_slice : AreRowsOf o w.values c.deref.result.now rows = subst (λ f. IfSome f (λ v. AreRowsOf o w.values c.deref.result.now v.items)) c.in-Some.is c.in_ok-rows.ensures in
    let found : AreRowsOf o w.values w.history.items rows = subst (λ (l : List ℕ). AreRowsOf o w.values l rows) c.deref.ensures.value of_slice in
    let says : text ≡ chart_text o c.args.source.now c.args.condition w.values rows =
    c.in_ok-text.ensures ∙ ap (chart_text o c.args.source.now c.args.condition w.values) c.deref-2.ensures.value in
    inr (rows, found, says)
