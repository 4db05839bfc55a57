use Rattle.std.proofs.Common.{◌≡◌, ◌++◌, length, codes, rules}
use Rattle.std.specs.Prelude.{OnOk, count_by}
use Rattle.og_report_prove.specs.Report.{is_proved, is_false, is_open, is_safe, is_unblocked, number_line, yes_line}
use Rattle.og_report_prove.proofs.Joins.{joined}
use Rattle.og_report_prove.proofs.reporting.put_totals.Goals as goal

pub returns : goal.returns
returns c =
    let diagnoses = c.args.diagnoses.now in
    let r = c.put_yes_line-2.result in
    let t0 = c.args.text.now.items in
    let t1 = c.put_number_line.new.text.items in
    let t2 = c.put_number_line-2.new.text.items in
    let t3 = c.put_number_line-3.new.text.items in
    let t4 = c.put_number_line-4.new.text.items in
    let t5 = c.put_yes_line.new.text.items in
    let a1 = number_line (codes "conditions") (length diagnoses) in
    let a2 = number_line (codes "proved") (count_by is_proved diagnoses) in
    let a3 = number_line (codes "false") (count_by is_false diagnoses) in
    let a4 = number_line (codes "open") (count_by is_open diagnoses) in
    let a5 = yes_line (codes "safe") (is_safe diagnoses) in
    let a6 = yes_line (codes "unblocked") (is_unblocked diagnoses) in
    let e1 : t1 ≡ t0 ++ a1 = search rules in
    let e2 : t2 ≡ t1 ++ a2 = search rules in
    let e3 : t3 ≡ t2 ++ a3 = search rules in
    let e4 : t4 ≡ t3 ++ a4 = search rules in
    let e5 : t5 ≡ t4 ++ a5 = search rules in
    let e6 : OnOk r (c.put_yes_line-2.new.text.items ≡ t5 ++ a6) = search rules in
    joined r t0 t1 _ a1 _ e1 (joined r t1 t2 _ a2 _ e2 (joined r t2 t3 _ a3 _ e3 (joined r t3 t4 _ a4 _ e4 (joined r t4 t5 _ a5 a6 e5 e6))))
