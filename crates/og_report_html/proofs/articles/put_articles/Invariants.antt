use Rattle.std.proofs.Common.{◌≡◌, ◌++◌, ℕ, List, None, drop, map}
use Rattle.og_cert_read.specs.Firsts.{found}
use Rattle.og_report_findings.specs.Entries.{entry_of}
use Rattle.og_report_html.specs.Articles.{articles_text}
use Rattle.og_report_html.proofs.articles.put_articles.Given as goal

abbrev pub invariant-loop-index : goal.invariant-loop-index
invariant-loop-index l =
    l.text.items
    ++ articles_text l.frame.hints.now l.frame.page.names.now l.frame.page.origins.now.source.now l.frame.page.origins.now.rows l.frame.utf8 (map (λ t. t.items) l.frame.beneath.now) (λ x. found x l.firsts) (drop l.index (map entry_of l.entries)) l.targets
    ≡ l.initial.text.items
    ++ articles_text l.frame.hints.now l.frame.page.names.now l.frame.page.origins.now.source.now l.frame.page.origins.now.rows l.frame.utf8 (map (λ t. t.items) l.frame.beneath.now) (λ (x : List ℕ). None) (map entry_of l.entries) l.targets
