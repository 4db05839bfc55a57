use Rattle.std.proofs.Common.{◌≡◌, ◌∙◌, ◌-◌, List, ap, length, take, drop, rules}
use Rattle.og_report_html.specs.Conjuncts.{Claim}
use Rattle.og_report_html.specs.Shared.{shared_by}
use Rattle.og_report_html.proofs.Cuts.{inner_is, tail_is}
use Rattle.og_report_html.proofs.shared.shared_in.Goals as goal

pub returns-in-len1-up : goal.returns-in-len1-up
returns-in-len1-up c =
    let claims = c.args.claims.now in
    let rest = take (length claims - 1) (drop 1 claims) in
    let count : c.saturating_sub-count.result ≡ length rest - 1 = search rules in
    c.shared_by.ensures ∙ ap (λ (l : List Claim). shared_by c.args.source.now l) (inner_is claims rest _ c.in-len1-up.len_at_least (tail_is claims) count)
