use Rattle.std.proofs.Common.{◌≡◌, ℕ, ◌+◌, List, Some, ap, ◌∙◌, cond, rules}
use Rattle.std.specs.Prelude.{unwrap_or}
use Rattle.std.specs.Str.{bytes_eq}
use Rattle.og_cert_read.specs.Firsts.{found}
use Rattle.og_report_prove.proofs.Keys.{updated, counted_again}
use Rattle.og_report_prove.proofs.together.count.Goals as goal

pub returns : goal.returns
returns c =
    let text = c.args.text.now in
    let old = c.args.counts.now in
    let new = c.insert.new.self in
    let n = c.unwrap_or-number.result in
    let is : n ≡ unwrap_or (found text old) 0 = search rules in
    counted_again text n old new is
    (λ t. updated c.in_ok-key.key.items (Some (n + 1)) old new c.in_ok-insert.ensures.updates t
    ∙ ap (λ (k : List ℕ). cond (bytes_eq t k) (Some (n + 1)) (found t old)) c.in_ok-key.ensures.items)
