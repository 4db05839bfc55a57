use Rattle.std.proofs.Common.{◌≡◌, ◌++◌, codes, rules, sym, subst}
use Rattle.std.specs.Prelude.{OnOk}
use Rattle.og_cond.specs.Seen.{seen}
use Rattle.og_cert_read.specs.Firsts.{found}
use Rattle.og_report_prove.specs.Report.{body_text, head_text, one_text}
use Rattle.og_report_prove.proofs.Joins.{joined}
use Rattle.og_report_prove.proofs.reporting.put_one.Goals as goal

pub returns-in_ok-put_head-in-False-clause-text : goal.returns-in_ok-put_head-in-False-clause-text
returns-in_ok-put_head-in-False-clause-text c =
    let names = c.args.page.names.now in
    let source = c.args.page.origins.now.source.now in
    let rows = c.args.page.origins.now.rows in
    let more = c.args.more in
    let condition = seen c.args.item.condition.now in
    let old = c.args.text.now.items in
    let mid = c.put_head.new.text.items in
    let head = head_text source rows c.args.item.number condition (codes "false") more in
    let body = body_text names source rows (λ t. found t c.args.firsts.now) c.in-False.block in
    let one : mid ≡ old ++ head = search rules in
    let last : OnOk c.put_body.result (c.put_body.new.text.items ≡ mid ++ body) = search rules in
    subst (λ t. OnOk c.put_body.result (c.put_body.new.text.items ≡ old ++ one_text names source rows (λ x. found x c.args.firsts.now) c.args.item.number condition more t)) (sym c.in-False.is)
    (joined c.put_body.result old mid _ head body one last)
