use Rattle.std.proofs.Common.{◌≡◌, ◌++◌, ◌∙◌, Bool, ap, rules}
use Rattle.std.specs.Prelude.{OnOk}
use Rattle.std.specs.Str.{is_utf8}
use Rattle.og_report_html.specs.Escapes.{escaped_text}
use Rattle.og_report_html.specs.declared.constants.TheConstants.{START, BEFORE_NAME, BEFORE_VERDICT}
use Rattle.og_report_prove.proofs.Joins.{joined}
use Rattle.og_report_html.proofs.whole.put_names.Goals as goal

pub returns : goal.returns
returns c =
    let name = c.args.name.now in
    let r = c.extend_from_slice-3.result in
    let t0 = c.args.text.now.items in
    let t1 = c.extend_from_slice.new.self.items in
    let t2 = c.put_escaped.new.text.items in
    let t3 = c.extend_from_slice-2.new.self.items in
    let t4 = c.put_escaped-2.new.text.items in
    let a = escaped_text (is_utf8 name) name in
    let utf8 = c.is_utf8-utf8.ensures in
    let e1 : t1 ≡ t0 ++ START.now = c.in_ok-extend_from_slice.ensures.items in
    let e2 : t2 ≡ t1 ++ a = c.in_ok-put_escaped.ensures ∙ ap (λ (b : Bool). t1 ++ escaped_text b name) utf8 in
    let e3 : t3 ≡ t2 ++ BEFORE_NAME.now = c.in_ok-extend_from_slice-2.ensures.items in
    let e4 : t4 ≡ t3 ++ a = c.in_ok-put_escaped-2.ensures ∙ ap (λ (b : Bool). t3 ++ escaped_text b name) utf8 in
    let e5 : OnOk r (c.extend_from_slice-3.new.self.items ≡ t4 ++ BEFORE_VERDICT.now) = search rules in
    joined r t0 t1 _ START.now _ e1 (joined r t1 t2 _ a _ e2 (joined r t2 t3 _ BEFORE_NAME.now _ e3 (joined r t3 t4 _ a _ e4 e5)))
