use Rattle.std.proofs.Common.{◌≡◌, ◌++◌, ◌∙◌, ℕ, List, [], map, ap}
use Rattle.og_cond.specs.Seen.{seen}
use Rattle.og_report_text.specs.Subject.{subject_of}
use Rattle.og_report_html.specs.Page.{page_text}
use Rattle.og_report_html.proofs.whole.page.Goals as goal

pub returns : goal.returns
returns c =
    let f = c.args.findings in
    let all = page_text c.args.name.now (subject_of c.args.subject.now) f.explored c.args.additions.before.now (map (λ t. t.items) c.args.additions.beneath.now) (map seen f.conditions.now) f.diagnoses.now f.runs.now c.args.targets.now in
    let begun : c.new-text.result.items ≡ [] = c.new-text.ensures.items in
    c.in_ok-put_page.ensures ∙ ap (λ (l : List ℕ). l ++ all) begun
