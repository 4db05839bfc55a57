use Rattle.std.proofs.Common.{◌≡◌, ◌≤◌, length, map, Some, ap, refl, ◌∙◌, arith}
use Rattle.std.specs.Prelude.{option_map, slice_get}
use Rattle.std.proofs.Math.ListN.{drop_of_length-le}
use Rattle.std.proofs.lemmas.List.{length-map}
use Rattle.std.proofs.lemmas.Option.{slice_get-map, slice_get_read}
use Rattle.og_report_prove.specs.Together.{key_seen}
use Rattle.og_report_prove.proofs.Keys.{is_left_goes, is_left_ends}
use Rattle.og_report_prove.proofs.Told.{each_told}
use Rattle.og_report_prove.proofs.together.repeats.Goals as goal

pub loop-index-preserved : goal.loop-index-preserved
loop-index-preserved c =
    let keys = c.args.keys.now in
    let i = c.loop-index.index in
    let key = c.index-keys-index.result in
    let at : slice_get (map key_seen keys) i ≡ Some (key_seen key) =
    slice_get-map key_seen keys i ∙ ap (option_map key_seen) (slice_get_read keys (length keys) i key refl c.loop-index-test.true c.index-keys-index.is) in
    is_left_goes (map key_seen keys) i (key_seen key) c.loop-index.counts c.more_left.new.counts c.loop-index.repeats.items c.push.new.self.items c.more_left.result
    at c.more_left.ensures.more c.more_left.ensures.counts c.in_ok-push.ensures.items c.loop-index.invariant

pub returns-clause-all : goal.returns-clause-all
returns-clause-all c =
    let keys = c.args.keys.now in
    let i = c.loop-index.index in
    let count = length-map keys key_seen in
    let past : length (map key_seen keys) ≤ i = omega (arith, count) in
    each_told keys c.loop-index.repeats.items
    (is_left_ends (map key_seen keys) i c.loop-index.counts c.loop-index.repeats.items (drop_of_length-le (map key_seen keys) past) c.loop-index.invariant)
