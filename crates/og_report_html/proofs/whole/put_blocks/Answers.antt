use Rattle.std.proofs.Common.{◌≡◌, ◌++◌, ℕ, List, None, map}
use Rattle.std.specs.Prelude.{OnOk}
use Rattle.std.specs.Str.{is_utf8}
use Rattle.og_cond.specs.Seen.{seen}
use Rattle.og_report_text.specs.Subject.{subject_of}
use Rattle.og_report_findings.specs.Entries.{unproved_from}
use Rattle.og_report_findings.specs.Order.{in_order}
use Rattle.og_report_html.specs.Articles.{articles_text}
use Rattle.og_report_html.specs.Numbers.{numbers_text}
use Rattle.og_report_prove.proofs.Joins.{joined}
use Rattle.og_report_html.proofs.whole.put_blocks.Goals as goal

pub returns : goal.returns
returns c =
    let s = subject_of c.args.subject.now in
    let f = c.args.findings in
    let ts = f.diagnoses.now in
    let before = c.args.additions.before.now in
    let r = c.put_placed.result in
    let t0 = c.args.text.now.items in
    let t1 = c.extend_from_slice.new.self.items in
    let t2 = c.put_numbers.new.text.items in
    let es = in_order (unproved_from 1 (map seen f.conditions.now) ts f.runs.now) in
    let blocks = articles_text s.outline s.outline.names s.given s.rows (is_utf8 s.given) (map (λ t. t.items) c.args.additions.beneath.now) (λ (t : List ℕ). None) es c.args.targets.now in
    let e1 : t1 ≡ t0 ++ before = c.in_ok-extend_from_slice.ensures.items in
    let e2 : t2 ≡ t1 ++ numbers_text ts = c.in_ok-put_numbers.ensures in
    let e3 : OnOk r (c.put_placed.new.text.items ≡ t2 ++ blocks) = c.put_placed.ensures in
    joined r t0 t1 _ before _ e1 (joined r t1 t2 _ (numbers_text ts) blocks e2 e3)
