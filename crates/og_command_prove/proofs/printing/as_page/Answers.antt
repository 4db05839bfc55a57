use Rattle.std.proofs.Common.{◌≡◌, map, subst}
use Rattle.og_cond.specs.Seen.{seen}
use Rattle.og_report_html.specs.Page.{page_text}
use Rattle.og_report_html.specs.Targets.{AreTargets}
use Rattle.og_report_text.specs.Subject.{subject_of}
use Rattle.og_command_prove.proofs.printing.as_page.Goals as goal

pub returns : goal.returns
returns c =
    let name = c.args.name.now in
    let s = subject_of c.args.subject.now in
    let t = c.args.table.now in
    let f = c.columns-findings.result in
    let listed = c.columns-findings.ensures in
    let gs = c.in_ok-targets.targets.items in
    let before = c.in_ok-added.added.before.items in
    let beneath = map (λ x. x.items) c.in_ok-added.added.beneath.items in
    let text = c.in_ok-text.text.items in
    let placed = c.deref-3.result.now in
    record {
      targets = gs;
      before = before;
      beneath = beneath;
      places = subst (λ cs. AreTargets s.outline (map seen cs) gs) listed.conditions c.in_ok-targets.ensures.targets;
      added = c.in_ok-added.ensures;
      page =
          subst (λ g. text ≡ page_text name s t.explored before beneath (map seen t.conditions.items) t.diagnoses.items t.runs.items g) c.deref-3.ensures.value
          (subst (λ rs. text ≡ page_text name s t.explored before beneath (map seen t.conditions.items) t.diagnoses.items rs placed) listed.runs
          (subst (λ ts. text ≡ page_text name s t.explored before beneath (map seen t.conditions.items) ts f.runs.now placed) listed.diagnoses
          (subst (λ cs. text ≡ page_text name s t.explored before beneath (map seen cs) f.diagnoses.now f.runs.now placed) listed.conditions
          (subst (λ e. text ≡ page_text name s e before beneath (map seen f.conditions.now) f.diagnoses.now f.runs.now placed) listed.explored
          (subst (λ bs. text ≡ page_text name s f.explored before (map (λ x. x.items) bs) (map seen f.conditions.now) f.diagnoses.now f.runs.now placed) c.deref-2.ensures.value
          (subst (λ b. text ≡ page_text name s f.explored b (map (λ x. x.items) c.deref-2.result.now) (map seen f.conditions.now) f.diagnoses.now f.runs.now placed) c.deref.ensures.value
          (subst (λ n. text ≡ page_text n s f.explored c.deref.result.now (map (λ x. x.items) c.deref-2.result.now) (map seen f.conditions.now) f.diagnoses.now f.runs.now placed) c.as_bytes-name.ensures.value c.in_ok-text.ensures)))))));
    }
