use Rattle.std.proofs.Common.{◌≡◌, ◌++◌, ◌∙◌, ℕ, List, None, map, ap, subst}
use Rattle.std.specs.Prelude.{OnOk}
use Rattle.og_report_findings.specs.Entries.{Entry, entry_of}
use Rattle.og_report_html.specs.Articles.{articles_text}
use Rattle.og_report_html.proofs.whole.put_ordered.Goals as goal

pub returns : goal.returns
returns c =
    let f = c.args.frame in
    let origins = f.page.origins.now in
    let blocks = λ (l : List Entry). articles_text f.hints.now f.page.names.now origins.source.now origins.rows f.utf8 (map (λ t. t.items) f.beneath.now) (λ (t : List ℕ). None) l c.args.targets.now in
    subst (λ (l : List Entry). OnOk c.put_articles.result (c.put_articles.new.text.items ≡ c.args.text.now.items ++ blocks l)) (ap (map entry_of) c.deref.ensures.value ∙ c.in_ok-entries.ensures) c.put_articles.ensures
