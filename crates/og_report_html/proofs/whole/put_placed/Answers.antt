use Rattle.std.proofs.Common.{◌≡◌, ◌++◌, ℕ, List, Bool, None, map, subst, rules}
use Rattle.std.specs.Prelude.{OnOk}
use Rattle.std.specs.Str.{is_utf8}
use Rattle.og_cond.specs.Seen.{seen}
use Rattle.og_typed.specs.Syntax.{Program}
use Rattle.og_report_text.specs.Subject.{subject_of}
use Rattle.og_report_findings.specs.Entries.{unproved_from}
use Rattle.og_report_findings.specs.Order.{in_order}
use Rattle.og_report_html.specs.Articles.{articles_text}
use Rattle.og_report_html.proofs.whole.put_placed.Goals as goal

pub returns : goal.returns
returns c =
    let s = subject_of c.args.subject.now in
    let f = c.args.findings in
    let r = c.put_ordered.result in
    let t0 = c.args.text.now.items in
    let new = c.put_ordered.new.text.items in
    let o = c.in_ok-hints.hints in
    let names = c.names.result.now in
    let es = in_order (unproved_from 1 (map seen f.conditions.now) f.diagnoses.now f.runs.now) in
    let blocks = λ (p : Program) (n : List (List ℕ)) (b : Bool). articles_text p n s.given s.rows b (map (λ t. t.items) c.args.beneath.now) (λ (t : List ℕ). None) es c.args.targets.now in
    let named : names ≡ s.outline.names = search rules in
    subst (λ (p : Program). OnOk r (new ≡ t0 ++ blocks p s.outline.names (is_utf8 s.given))) c.in_ok-hints.ensures
    (subst (λ (n : List (List ℕ)). OnOk r (new ≡ t0 ++ blocks o n (is_utf8 s.given))) named
    (subst (λ (b : Bool). OnOk r (new ≡ t0 ++ blocks o names b)) c.is_utf8.ensures c.put_ordered.ensures))
