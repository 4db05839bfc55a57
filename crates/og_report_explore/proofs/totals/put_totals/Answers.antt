use Rattle.std.proofs.Common.{◌≡◌, ◌++◌, codes, rules}
use Rattle.std.specs.Prelude.{OnOk}
use Rattle.og_report_prove.proofs.Joins.{joined}
use Rattle.og_report_explore.specs.Totals.{starts_line, moments_line, ended_line, complete_word, found_line, safe_of, unblocked_of}
use Rattle.og_report_explore.proofs.totals.put_totals.Goals as goal

pub returns : goal.returns
returns c =
    let r = c.put_found-2.result in
    let t0 = c.args.text.now.items in
    let t1 = c.put_starts.new.text.items in
    let t2 = c.put_moments.new.text.items in
    let t25 = c.put_ended.new.text.items in
    let t3 = c.put_complete.new.text.items in
    let t4 = c.put_found.new.text.items in
    let a1 = starts_line c.args.names.now c.args.totals.now.starts c.args.totals.now.given.items in
    let a2 = moments_line c.args.totals.now.moments in
    let a25 = ended_line c.args.totals.now.ended in
    let a3 = complete_word c.args.totals.now.complete in
    let a4 = found_line (codes "safe") (safe_of c.args.totals.now.complete c.args.findings.now) in
    let e1 : t1 ≡ t0 ++ a1 = search rules in
    let e2 : t2 ≡ t1 ++ a2 = search rules in
    let e25 : t25 ≡ t2 ++ a25 = search rules in
    let e3 : t3 ≡ t25 ++ a3 = search rules in
    let e4 : t4 ≡ t3 ++ a4 = search rules in
    let e5 : OnOk r (c.put_found-2.new.text.items ≡ t4 ++ found_line (codes "unblocked") (unblocked_of c.args.totals.now.complete c.args.findings.now)) = search rules in
    joined r t0 t1 _ a1 _ e1 (joined r t1 t2 _ a2 _ e2 (joined r t2 t25 _ a25 _ e25 (joined r t25 t3 _ a3 _ e3 (joined r t3 t4 _ a4 _ e4 e5))))
