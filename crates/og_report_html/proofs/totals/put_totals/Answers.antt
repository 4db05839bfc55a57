use Rattle.std.proofs.Common.{◌≡◌, ◌++◌, ◌∙◌, ℕ, Bool, length, codes, ap, subst, rules}
use Rattle.std.specs.Prelude.{OnOk, count_by}
use Rattle.og_report_prove.specs.Report.{is_proved, is_false, is_open, is_safe, is_unblocked}
use Rattle.og_report_html.specs.Totals.{number_item, answer_item}
use Rattle.og_report_prove.proofs.Joins.{joined}
use Rattle.og_report_html.proofs.totals.put_totals.Goals as goal

pub returns : goal.returns
returns c =
    let diagnoses = c.args.diagnoses.now in
    let r = c.put_answer_item-2.result in
    let t0 = c.args.text.now.items in
    let t1 = c.put_number_item.new.text.items in
    let t2 = c.put_number_item-2.new.text.items in
    let t3 = c.put_number_item-3.new.text.items in
    let t4 = c.put_number_item-4.new.text.items in
    let t5 = c.put_answer_item.new.text.items in
    let t6 = c.put_answer_item-2.new.text.items in
    let a1 = number_item (codes "conditions") (length diagnoses) in
    let a2 = number_item (codes "proved") (count_by is_proved diagnoses) in
    let a3 = number_item (codes "false") (count_by is_false diagnoses) in
    let a4 = number_item (codes "open") (count_by is_open diagnoses) in
    let a5 = answer_item (codes "safe") (is_safe diagnoses) in
    let a6 = answer_item (codes "unblocked") (is_unblocked diagnoses) in
    let n2 : c.of-totals.result.proved ≡ count_by is_proved diagnoses = search rules in
    let n3 : c.of-totals.result.refuted ≡ count_by is_false diagnoses = search rules in
    let n4 : c.of-totals.result.still_open ≡ count_by is_open diagnoses = search rules in
    let n5 : c.is_safe.result ≡ is_safe diagnoses = search rules in
    let n6 : c.is_unblocked.result ≡ is_unblocked diagnoses = search rules in
    let e1 : t1 ≡ t0 ++ a1 = c.in_ok-put_number_item.ensures in
    let e2 : t2 ≡ t1 ++ a2 = c.in_ok-put_number_item-2.ensures ∙ ap (λ (n : ℕ). t1 ++ number_item (codes "proved") n) n2 in
    let e3 : t3 ≡ t2 ++ a3 = c.in_ok-put_number_item-3.ensures ∙ ap (λ (n : ℕ). t2 ++ number_item (codes "false") n) n3 in
    let e4 : t4 ≡ t3 ++ a4 = c.in_ok-put_number_item-4.ensures ∙ ap (λ (n : ℕ). t3 ++ number_item (codes "open") n) n4 in
    let e5 : t5 ≡ t4 ++ a5 = c.in_ok-put_answer_item.ensures ∙ ap (λ (b : Bool). t4 ++ answer_item (codes "safe") b) n5 in
    let e6 : OnOk r (t6 ≡ t5 ++ a6) = subst (λ (b : Bool). OnOk r (t6 ≡ t5 ++ answer_item (codes "unblocked") b)) n6 c.put_answer_item-2.ensures in
    joined r t0 t1 _ a1 _ e1 (joined r t1 t2 _ a2 _ e2 (joined r t2 t3 _ a3 _ e3 (joined r t3 t4 _ a4 _ e4 (joined r t4 t5 _ a5 a6 e5 e6))))
