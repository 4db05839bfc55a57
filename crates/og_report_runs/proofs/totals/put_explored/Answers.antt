use Rattle.std.proofs.Common.{◌≡◌, ◌++◌, codes, rules}
use Rattle.std.specs.Prelude.{OnOk}
use Rattle.og_report_prove.specs.Report.{number_line, yes_line}
use Rattle.og_report_prove.proofs.Joins.{joined}
use Rattle.og_report_runs.specs.Report.{count_reached}
use Rattle.og_report_runs.proofs.totals.put_explored.Goals as goal

pub returns : goal.returns
returns c =
    let e = c.args.explored in
    let r = c.put_number_line-3.result in
    let t0 = c.args.text.now.items in
    let t1 = c.put_number_line.new.text.items in
    let t2 = c.put_number_line-2.new.text.items in
    let t3 = c.put_yes_line.new.text.items in
    let a1 = number_line (codes "starts") e.starts in
    let a2 = number_line (codes "moments") e.moments in
    let a3 = yes_line (codes "complete") e.complete in
    let e1 : t1 ≡ t0 ++ a1 = search rules in
    let e2 : t2 ≡ t1 ++ a2 = search rules in
    let e3 : t3 ≡ t2 ++ a3 = search rules in
    let e4 : OnOk r (c.put_number_line-3.new.text.items ≡ t3 ++ number_line (codes "reached") (count_reached c.args.runs.now)) = search rules in
    joined r t0 t1 _ a1 _ e1 (joined r t1 t2 _ a2 _ e2 (joined r t2 t3 _ a3 _ e3 e4))
