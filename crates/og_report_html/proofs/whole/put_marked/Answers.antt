use Rattle.std.proofs.Common.{◌≡◌, ◌++◌, ◌∙◌, ℕ, List, Bool, map, ap, subst}
use Rattle.std.specs.Prelude.{OnOk}
use Rattle.std.specs.Str.{is_utf8}
use Rattle.og_cond.specs.Seen.{seen}
use Rattle.og_report_text.specs.Subject.{subject_of}
use Rattle.og_report_html.specs.Conjuncts.{claims_in}
use Rattle.og_report_html.specs.Shared.{shared_in}
use Rattle.og_report_html.specs.Edges.{edges_in}
use Rattle.og_report_html.specs.Marks.{found, mark_at}
use Rattle.og_report_html.specs.Source.{first_spot, source_text}
use Rattle.og_report_html.specs.declared.edge.Boundary.{Boundary}
use Rattle.og_report_html.proofs.Steps.{source_same, edges_same}
use Rattle.og_report_html.proofs.whole.put_marked.Goals as goal

pub returns : goal.returns
returns c =
    let s = subject_of c.args.subject.now in
    let ts = c.args.findings.diagnoses.now in
    let f = λ (p : ℕ). found p c.in_ok-marks.marks in
    let g = mark_at s.rows (map seen c.args.findings.conditions.now) ts c.args.targets.now in
    let es = c.deref.result.now in
    let edges : es ≡ edges_in s.given s.rows g ts =
    c.deref.ensures.value ∙ c.in_ok-edges.ensures
    ∙ edges_same s.given s.rows f g ts c.in_ok-marks.ensures (shared_in s.given (claims_in s.given)) (claims_in s.given) in
    let whole : source_text c.is_utf8.result f es s.given ≡ source_text (is_utf8 s.given) g (edges_in s.given s.rows g ts) s.given =
    ap (λ (b : Bool). source_text b f es s.given) c.is_utf8.ensures
    ∙ source_same (is_utf8 s.given) f g c.in_ok-marks.ensures 0 first_spot es s.given
    ∙ ap (λ (l : List Boundary). source_text (is_utf8 s.given) g l s.given) edges in
    subst (λ (t : List ℕ). OnOk c.put_source.result (c.put_source.new.text.items ≡ c.args.text.now.items ++ t)) whole c.put_source.ensures
