use Rattle.std.proofs.Common.{◌≡◌, ℕ, ◌-◌, List, Option, Some, None, ap, sym, ◌∙◌, cond, rules}
use Rattle.std.specs.Prelude.{option_map}
use Rattle.std.specs.Str.{bytes_eq}
use Rattle.og_cert_read.specs.Firsts.{found}
use Rattle.og_report_prove.specs.Together.{has_key, key_seen, more_left, without}
use Rattle.og_report_prove.proofs.Keys.{updated, taken_out}
use Rattle.og_report_prove.proofs.together.more_left.Goals as goal

pub returns-clause-more : goal.returns-clause-more
returns-clause-more c =
    let old = c.args.counts.now in
    let key = c.in-Some.key.items in
    let is : key_seen c.args.key.now ≡ Some key = ap key_seen c.in-Some.is in
    let got : Some c.in_ok-number.number ≡ found key old = search rules in
    let one : c.saturating_sub.result ≡ c.in_ok-number.number - 1 = search rules in
    ap (λ (n : ℕ). Some n) one ∙ ap (option_map (λ n. n - 1)) got ∙ ap (more_left (λ t. found t old)) (sym is)

pub returns-clause-counts : goal.returns-clause-counts
returns-clause-counts c = λ t.
    let old = c.args.counts.now in
    let key = c.in-Some.key.items in
    let is : key_seen c.args.key.now ≡ Some key = ap key_seen c.in-Some.is in
    updated c.as_slice.result.now None old c.remove.new.self c.in_ok-number.ensures.updates t
    ∙ ap (λ (k : List ℕ). cond (bytes_eq t k) None (found t old)) c.as_slice.ensures.value
    ∙ taken_out (bytes_eq t key) (found t old) ∙ ap (λ (k : Option (List ℕ)). without (has_key t k) (found t old)) (sym is)
