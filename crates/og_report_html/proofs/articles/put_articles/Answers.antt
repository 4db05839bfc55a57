use Rattle.std.proofs.Common.{◌≡◌, ◌∙◌, ◌++◌, ℕ, List, Some, None, length, map, refl, ap}
use Rattle.std.specs.Prelude.{slice_get, option_map}
use Rattle.std.proofs.lemmas.Option.{slice_get-map, slice_get_read}
use Rattle.og_cert_read.specs.Firsts.{found}
use Rattle.og_report_findings.specs.Entries.{entry_of}
use Rattle.og_report_html.specs.Articles.{article_text, articles_text}
use Rattle.og_report_html.specs.declared.target.Target.{Target}
use Rattle.og_report_html.proofs.Steps.{articles_go}
use Rattle.og_report_html.proofs.articles.put_articles.Goals as goal

pub loop-index-preserved : goal.loop-index-preserved
loop-index-preserved c =
    let f = c.args.frame in
    let o = f.hints.now in
    let names = f.page.names.now in
    let source = f.page.origins.now.source.now in
    let rows = f.page.origins.now.rows in
    let beneath = map (λ t. t.items) f.beneath.now in
    let entries = c.args.entries.now in
    let i = c.loop-index.index in
    let entry = c.index-entries-index.result in
    let is : slice_get (map entry_of entries) i ≡ Some (entry_of entry) =
    slice_get-map entry_of entries i ∙ ap (option_map entry_of) (slice_get_read entries (length entries) i entry refl c.loop-index-test.true c.index-entries-index.is) in
    articles_go o names source rows f.utf8 beneath c.loop-index.text.items c.put_article.new.text.items
    (c.args.text.now.items ++ articles_text o names source rows f.utf8 beneath (λ (x : List ℕ). None) (map entry_of entries) c.args.targets.now)
    c.loop-index.firsts c.put_article.new.firsts i (map entry_of entries) c.args.targets.now (entry_of entry) is
    (c.in_ok-put_article.ensures.text
    ∙ ap (λ (g : Target). c.loop-index.text.items ++ article_text o names source rows f.utf8 beneath (λ x. found x c.loop-index.firsts) (entry_of entry) g) c.target_at-target.ensures)
    c.in_ok-put_article.ensures.firsts c.loop-index.invariant
