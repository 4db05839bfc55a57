use Rattle.std.proofs.Common.{◌≡◌, ◌-◌, ◌++◌, ◌∙◌, List, ℕ, map, ap, rules}
use Rattle.std.specs.Prelude.{OnOk}
use Rattle.og_cert_read.specs.Firsts.{found}
use Rattle.og_report_findings.specs.Entries.{entry_of}
use Rattle.og_report_html.specs.Escapes.{escaped_text}
use Rattle.og_report_html.specs.Articles.{article_start, article_end, beneath_at, links_text, printed}
use Rattle.og_report_prove.proofs.Joins.{joined}
use Rattle.og_report_html.proofs.articles.Item.put_block.Goals as goal

pub returns-clause-text : goal.returns-clause-text
returns-clause-text c =
    let f = c.args.frame in
    let page = f.page in
    let source = page.origins.now.source.now in
    let rows = page.origins.now.rows in
    let e = entry_of c.args.self.now.entry in
    let r = c.put_article_end.result in
    let t0 = c.args.text.now.items in
    let t1 = c.put_article_start.new.text.items in
    let t2 = c.put_escaped.new.text.items in
    let a1 = article_start e.number c.args.finding in
    let a2 = escaped_text f.utf8 (printed f.hints.now page.names.now source rows (λ x. found x c.args.firsts.now) e) in
    let a3 = article_end (beneath_at (map (λ t. t.items) f.beneath.now) (e.number - 1)) (links_text source rows e.condition e.diagnosis c.args.self.now.target) in
    let e1 : t1 ≡ t0 ++ a1 = search rules in
    let e2 : t2 ≡ t1 ++ a2 = c.in_ok-put_escaped.ensures ∙ ap (λ (l : List ℕ). t1 ++ escaped_text f.utf8 l) (c.deref.ensures.value ∙ c.in_ok-printed.ensures.text) in
    let e3 : OnOk r (c.put_article_end.new.text.items ≡ t2 ++ a3) = search rules in
    joined r t0 t1 _ a1 _ e1 (joined r t1 t2 _ a2 a3 e2 e3)
