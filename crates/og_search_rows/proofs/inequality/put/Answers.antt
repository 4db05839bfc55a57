use Rattle.std.proofs.Common.{ap, ◌∙◌}
use Rattle.og_search_rows.specs.Inequality.{sum_at}
use Rattle.og_search_rows.proofs.Sums.{sum_at-push}
use Rattle.og_search_rows.proofs.inequality.put.Goals as goal

pub returns : goal.returns
returns c = λ s. ap (λ ts. sum_at ts s) c.in_ok-push.ensures.items ∙ sum_at-push c.args.terms.now.items c.args.term s
