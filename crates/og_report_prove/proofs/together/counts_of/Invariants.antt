use Rattle.std.proofs.Common.{◌≡◌, ℕ, List, take, map, count_by}
use Rattle.og_cert_read.specs.Firsts.{found}
use Rattle.og_report_prove.specs.Together.{has_key, key_seen, total}
use Rattle.og_report_prove.proofs.together.counts_of.Given as goal

abbrev pub invariant-loop-index : goal.invariant-loop-index
invariant-loop-index l = (t : List ℕ) → found t l.counts ≡ total (count_by (has_key t) (take l.index (map key_seen l.keys)))
