use Rattle.std.proofs.Common.{◌≡◌, ◌++◌, codes}
use Rattle.std.specs.Prelude.{OnOk}
use Rattle.og_cond.specs.Seen.{seen}
use Rattle.og_report_html.specs.Articles.{links_text}
use Rattle.og_report_html.proofs.Steps.{on_ok}
use Rattle.og_report_text.proofs.Joins.{joined, joined_three}
use Rattle.og_report_html.proofs.articles.put_article_end.Goals as goal

pub returns : goal.returns
returns c =
    let r = c.extend_from_slice.result in
    let t0 = c.args.text.now.items in
    let t1 = c.put_between.new.text.items in
    let t2 = c.put_links.new.text.items in
    let origins = c.args.origins.now in
    let links = links_text origins.source.now origins.rows (seen c.args.entry.condition.now) c.args.entry.diagnosis.now c.args.target.now in
    let behind = codes "</p></article>\n" in
    let e2 : t2 ≡ t1 ++ links = c.in_ok-put_links.ensures in
    let e3 : OnOk r (c.extend_from_slice.new.self.items ≡ t2 ++ behind) = on_ok r _ _ _ c.extend_from_slice.ensures.items in
    joined_three r t0 t1 _ (codes "</pre>\n") c.args.beneath.now (codes "<p>") _ c.in_ok-put_between.ensures (joined r t1 t2 _ links behind e2 e3)
