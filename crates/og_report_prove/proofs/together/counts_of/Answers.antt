use Rattle.std.proofs.Common.{◌≡◌, length, take, map, Some, ap, sym, refl, ◌∙◌, count_by}
use Rattle.std.specs.Prelude.{option_map, slice_get}
use Rattle.std.proofs.lemmas.Option.{slice_get-map, slice_get_read}
use Rattle.og_cert_read.specs.Firsts.{found}
use Rattle.og_report_prove.specs.Together.{has_key, key_seen, total}
use Rattle.og_report_prove.proofs.Keys.{counted_more}
use Rattle.og_report_prove.proofs.Lists.{taken}
use Rattle.og_report_prove.proofs.together.counts_of.Goals as goal

pub loop-index-preserved : goal.loop-index-preserved
loop-index-preserved c = λ t.
    let keys = c.args.keys.now in
    let all = map key_seen keys in
    let i = c.loop-index.index in
    let key = c.index-keys-index.result in
    let at : slice_get all i ≡ Some (key_seen key) =
    slice_get-map key_seen keys i ∙ ap (option_map key_seen) (slice_get_read keys (length keys) i key refl c.loop-index-test.true c.index-keys-index.is) in
    counted_more (take i all) (key_seen key) t (found t c.loop-index.counts) (found t c.count_key.new.counts) (c.loop-index.invariant t) (c.in_ok-count_key.ensures t)
    ∙ ap (λ l. total (count_by (has_key t) l)) (sym (taken all i (key_seen key) at))
