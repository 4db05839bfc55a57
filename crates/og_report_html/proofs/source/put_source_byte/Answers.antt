use Rattle.std.proofs.Common.{◌≡◌, ◌++◌, rules}
use Rattle.std.specs.Prelude.{OnOk}
use Rattle.og_report_html.specs.Escapes.{escaped}
use Rattle.og_report_html.specs.Source.{ending, starting, closing}
use Rattle.og_report_prove.proofs.Joins.{joined}
use Rattle.og_report_html.proofs.source.put_source_byte.Goals as goal

pub returns : goal.returns
returns c =
    let old = c.args.old in
    let new = c.args.new in
    let r = c.put_closing.result in
    let t0 = c.args.text.now.items in
    let t1 = c.put_ending.new.text.items in
    let t2 = c.put_starting.new.text.items in
    let t3 = c.put_byte.new.text.items in
    let a1 = ending old new in
    let a2 = starting old new c.args.mark in
    let a3 = escaped c.args.utf8 c.args.byte in
    let a4 = closing old new in
    let e1 : t1 ≡ t0 ++ a1 = search rules in
    let e2 : t2 ≡ t1 ++ a2 = search rules in
    let e3 : t3 ≡ t2 ++ a3 = search rules in
    let e4 : OnOk r (c.put_closing.new.text.items ≡ t3 ++ a4) = search rules in
    joined r t0 t1 _ a1 _ e1 (joined r t1 t2 _ a2 _ e2 (joined r t2 t3 _ a3 a4 e3 e4))
