use Rattle.std.proofs.Common.{◌≡◌, ◌++◌, ◌∙◌, List, ℕ, ap, codes, rules}
use Rattle.std.specs.Prelude.{OnOk}
use Rattle.og_report_html.specs.Findings.{word, sign}
use Rattle.og_report_html.specs.Numbers.{number_links}
use Rattle.og_report_text.proofs.Joins.{joined, joined_three}
use Rattle.og_report_html.proofs.numbers.put_numbers_line.Goals as goal

pub returns : goal.returns
returns c =
    let r = c.extend_from_slice-3.result in
    let t0 = c.args.text.now.items in
    let t1 = c.put_between.new.text.items in
    let t2 = c.extend_from_slice.new.self.items in
    let t3 = c.extend_from_slice-2.new.self.items in
    let t4 = c.put_number_links.new.text.items in
    let a1 = codes "<p>" in
    let a2 = sign c.args.finding in
    let a3 = codes " " in
    let a4 = word c.args.finding in
    let a5 = codes ":" in
    let a6 = number_links c.args.finding 1 c.args.diagnoses.now in
    let a7 = codes "</p>\n" in
    let e1 : t1 ≡ t0 ++ (a1 ++ (a2 ++ a3)) = c.in_ok-put_between.ensures ∙ ap (λ (l : List ℕ). t0 ++ (a1 ++ (l ++ a3))) c.sign.ensures in
    let e2 : t2 ≡ t1 ++ a4 = c.in_ok-extend_from_slice.ensures.items ∙ ap (λ (l : List ℕ). t1 ++ l) c.word.ensures in
    let e3 : t3 ≡ t2 ++ a5 = c.in_ok-extend_from_slice-2.ensures.items in
    let e4 : t4 ≡ t3 ++ a6 = search rules in
    let e5 : OnOk r (c.extend_from_slice-3.new.self.items ≡ t4 ++ a7) = search rules in
    joined_three r t0 t1 _ a1 a2 a3 _ e1 (joined r t1 t2 _ a4 _ e2 (joined r t2 t3 _ a5 _ e3 (joined r t3 t4 _ a6 a7 e4 e5)))
