use Rattle.std.proofs.Common.{◌≡◌, ◌++◌, ◌∙◌, [], ℕ, List, ap, codes, subst}
use Rattle.std.specs.Prelude.{OnOk}
use Rattle.og_report_html.specs.Escapes.{escaped_text}
use Rattle.og_report_runs.specs.Lines.{start_text}
use Rattle.og_report_html.specs.Lanes.{wide_row}
use Rattle.og_report_html.proofs.charting.put_start_row.Goals as goal

pub returns : goal.returns
returns c =
    let frame = c.args.frame in
    let r = c.put_wide.result in
    let t0 = c.args.text.now.items in
    let begins = start_text c.args.outline.now c.args.values.now in
    let a1 = codes "starts from " in
    let begun : c.new-begins.result.items ≡ [] = c.new-begins.ensures.items in
    let e1 : c.put_start.new.text.items ≡ begins = c.in_ok-put_start.ensures ∙ ap (λ (l : List ℕ). l ++ begins) begun in
    let e2 : c.deref.result.now ≡ begins = c.deref.ensures.value ∙ e1 in
    let e3 : c.put_escaped.new.text.items ≡ c.in_ok-line.line.items ++ escaped_text frame.utf8 c.deref.result.now = c.in_ok-put_escaped.ensures in
    let e4 : c.in_ok-line.line.items ≡ a1 = c.in_ok-line.ensures.items in
    let line : c.deref-2.result.now ≡ a1 ++ escaped_text frame.utf8 begins =
    c.deref-2.ensures.value ∙ e3 ∙ ap (λ (l : List ℕ). l ++ escaped_text frame.utf8 c.deref.result.now) e4 ∙ ap (λ (l : List ℕ). a1 ++ escaped_text frame.utf8 l) e2 in
    subst (λ (l : List ℕ). OnOk r (c.put_wide.new.text.items ≡ t0 ++ wide_row (codes "faint") frame.lanes l)) line c.put_wide.ensures
