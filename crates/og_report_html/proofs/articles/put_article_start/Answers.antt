use Rattle.std.proofs.Common.{◌≡◌, ◌++◌, ◌∙◌, List, ℕ, ap, codes, rules}
use Rattle.std.specs.Prelude.{OnOk}
use Rattle.std.specs.Fmt.{decimal}
use Rattle.og_report_html.specs.Findings.{word}
use Rattle.og_report_text.proofs.Joins.{joined, joined_three}
use Rattle.og_report_html.proofs.articles.put_article_start.Goals as goal

pub returns : goal.returns
returns c =
    let r = c.extend_from_slice-3.result in
    let t0 = c.args.text.now.items in
    let t1 = c.put_number_between.new.text.items in
    let t2 = c.extend_from_slice.new.self.items in
    let t3 = c.put_number_between-2.new.text.items in
    let t4 = c.extend_from_slice-2.new.self.items in
    let n = decimal c.args.number in
    let w = word c.args.finding in
    let e2 : t2 ≡ t1 ++ w = c.in_ok-extend_from_slice.ensures.items ∙ ap (λ (l : List ℕ). t1 ++ l) c.word.ensures in
    let e4 : t4 ≡ t3 ++ w = c.in_ok-extend_from_slice-2.ensures.items ∙ ap (λ (l : List ℕ). t3 ++ l) c.word-2.ensures in
    let e5 : OnOk r (c.extend_from_slice-3.new.self.items ≡ t4 ++ codes "</h3>\n<pre>") = search rules in
    joined_three r t0 t1 _ (codes "<article id=c") n (codes " class=") _ c.in_ok-put_number_between.ensures (joined r t1 t2 _ w _ e2
    (joined_three r t2 t3 _ (codes "><h3>Condition ") n (codes ": ") _ c.in_ok-put_number_between-2.ensures (joined r t3 t4 _ w _ e4 e5)))
