use Rattle.std.proofs.Common.{refl, arith}
use Rattle.std.proofs.lemmas.List.{ext_get_or}
use Rattle.og_search_rows.proofs.Merges.{no_term}
use Rattle.og_search_rows.proofs.inequality.are_same.Goals as goal

pub returns : goal.returns
returns c = (
  (λ _. ext_get_or no_term c.args.a.now c.args.b.now (omega arith) (λ k h. c.loop-i.invariant k no_term (omega arith))),
  (λ _. refl),
)
