use Rattle.std.proofs.Common.{◌≡◌, ◌++◌, ◌∙◌, [], ℕ, List, Bool, map, ap, ap₂, sym, length, codes}
use Rattle.std.specs.Str.{is_utf8}
use Rattle.std.proofs.lemmas.List.{length-map, append_assoc}
use Rattle.og_typed.specs.Plain.{sequence}
use Rattle.og_report_html.specs.Lanes.{has_main, lane_count, head_row, all_rows}
use Rattle.og_report_html.proofs.charting.chart_of.Goals as goal

pub returns : goal.returns
returns c =
    let o = c.args.outline.now in
    let source = c.args.source.now in
    let rows = λ (utf8 : Bool) (names : List (List ℕ)) (lanes : ℕ). all_rows utf8 names source lanes o c.args.condition c.args.values.now c.args.rows.now in
    let many = length c.processes.result.now in
    let main = c.has_main-main.result in
    let t1 = c.extend_from_slice.new.self.items in
    let t2 = c.put_head.new.text.items in
    let t3 = c.put_all.new.text.items in
    let a1 = codes "<div class=wide tabindex=0><table class=run>\n" in
    let a2 = head_row (length o.processes) (has_main o) in
    let a3 = rows (is_utf8 source) o.names (lane_count (length o.processes) (has_main o)) in
    let a4 = codes "</table></div>\n" in
    let same : length (map sequence c.processes.result.now) ≡ many = simp length-map in
    let count : many ≡ length o.processes = sym same ∙ ap length c.processes.ensures in
    let is_main : main ≡ has_main o = c.has_main-main.ensures in
    let begun : c.new-text.result.items ≡ [] = c.new-text.ensures.items in
    let e1 : t1 ≡ a1 = c.in_ok-extend_from_slice.ensures.items ∙ ap (λ (l : List ℕ). l ++ a1) begun in
    let e2 : t2 ≡ t1 ++ a2 = c.in_ok-put_head.ensures ∙ ap₂ (λ (n : ℕ) (b : Bool). t1 ++ head_row n b) count is_main in
    let lanes : c.lane_count.result ≡ lane_count (length o.processes) (has_main o) = c.lane_count.ensures ∙ ap₂ lane_count count is_main in
    let e3 : t3 ≡ t2 ++ a3 =
    c.in_ok-put_all.ensures
    ∙ ap₂ (λ (b : Bool) (n : ℕ). t2 ++ rows b c.names.result.now n) c.is_utf8.ensures lanes
    ∙ ap (λ (names : List (List ℕ)). t2 ++ rows (is_utf8 source) names (lane_count (length o.processes) (has_main o))) c.names.ensures in
    let e4 : c.extend_from_slice-2.new.self.items ≡ t3 ++ a4 = c.in_ok-extend_from_slice-2.ensures.items in
    e4
    ∙ ap (λ (l : List ℕ). l ++ a4) (e3 ∙ ap (λ (l : List ℕ). l ++ a3) (e2 ∙ ap (λ (l : List ℕ). l ++ a2) e1))
    ∙ append_assoc (a1 ++ a2) a3 a4
    ∙ append_assoc a1 a2 (a3 ++ a4)
