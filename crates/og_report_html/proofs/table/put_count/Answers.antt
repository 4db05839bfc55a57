use Rattle.std.proofs.Common.{◌≡◌, ◌++◌, ◌∙◌, List, ℕ, ap, codes, rules}
use Rattle.std.specs.Prelude.{OnOk}
use Rattle.std.specs.Fmt.{decimal}
use Rattle.og_report_html.specs.Findings.{word, sign}
use Rattle.og_report_text.proofs.Joins.{joined, joined_three}
use Rattle.og_report_html.proofs.table.put_count.Goals as goal

pub returns : goal.returns
returns c =
    let r = c.extend_from_slice.result in
    let t0 = c.args.text.now.items in
    let t1 = c.put_between.new.text.items in
    let t2 = c.put_number.new.text.items in
    let t3 = c.put_between-2.new.text.items in
    let t4 = c.put_number-2.new.text.items in
    let a1 = codes "<a class=" in
    let a2 = word c.args.finding in
    let a3 = codes " href=#c" in
    let a4 = decimal c.args.first in
    let a5 = codes ">" in
    let a6 = sign c.args.finding in
    let a7 = codes " " in
    let a8 = decimal c.args.count in
    let a9 = codes "</a> " in
    let e1 : t1 ≡ t0 ++ (a1 ++ (a2 ++ a3)) = c.in_ok-put_between.ensures ∙ ap (λ (l : List ℕ). t0 ++ (a1 ++ (l ++ a3))) c.word.ensures in
    let e2 : t2 ≡ t1 ++ a4 = search rules in
    let e3 : t3 ≡ t2 ++ (a5 ++ (a6 ++ a7)) = c.in_ok-put_between-2.ensures ∙ ap (λ (l : List ℕ). t2 ++ (a5 ++ (l ++ a7))) c.sign.ensures in
    let e4 : t4 ≡ t3 ++ a8 = search rules in
    let e5 : OnOk r (c.extend_from_slice.new.self.items ≡ t4 ++ a9) = search rules in
    joined_three r t0 t1 _ a1 a2 a3 _ e1 (joined r t1 t2 _ a4 _ e2 (joined_three r t2 t3 _ a5 a6 a7 _ e3 (joined r t3 t4 _ a8 a9 e4 e5)))
