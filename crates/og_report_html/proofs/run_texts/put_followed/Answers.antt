use Rattle.std.proofs.Common.{◌≡◌, ◌∙◌, ◌++◌, ℕ, ap, codes, rules}
use Rattle.std.specs.Prelude.{OnOk}
use Rattle.std.specs.Fmt.{decimal}
use Rattle.og_report_text.proofs.Joins.{joined, joined_three}
use Rattle.og_report_html.specs.Lanes.{complete_text}
use Rattle.og_report_html.proofs.run_texts.put_followed.Goals as goal

pub returns : goal.returns
returns c =
    let explored = c.args.explored in
    let r = c.put_complete.result in
    let t0 = c.args.text.now.items in
    let t1 = c.put_number_between.new.text.items in
    let t2 = c.put_number.new.text.items in
    let a1 = codes "<p>Runs: starts: " in
    let a2 = decimal explored.starts in
    let a3 = codes ", moments: " in
    let a4 = decimal explored.moments in
    let a5 = complete_text explored.complete in
    let starts : c.from.result ≡ explored.starts = search rules in
    let e1 : t1 ≡ t0 ++ (a1 ++ (a2 ++ a3)) = c.in_ok-put_number_between.ensures ∙ ap (λ (n : ℕ). t0 ++ (a1 ++ (decimal n ++ a3))) starts in
    let e2 : t2 ≡ t1 ++ a4 = search rules in
    let e3 : OnOk r (c.put_complete.new.text.items ≡ t2 ++ a5) = search rules in
    joined_three r t0 t1 _ a1 a2 a3 _ e1 (joined r t1 t2 _ a4 a5 e2 e3)
