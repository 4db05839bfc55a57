use Rattle.std.proofs.Common.{◌≡◌, Some, length, map, slice_get, refl, ap, ◌∙◌}
use Rattle.std.specs.Prelude.{option_map}
use Rattle.std.proofs.lemmas.Option.{slice_get-map, slice_get_read}
use Rattle.og_cond.specs.Seen.{part_of}
use Rattle.og_report_runs.proofs.Parts.{part_at}
use Rattle.og_report_runs.proofs.holding.parts_may_hold.Goals as goal

pub returns-then-not-part_may_hold : goal.returns-then-not-part_may_hold
returns-then-not-part_may_hold c =
    let list = c.args.parts.now in
    let i = c.loop-part.part-index in
    let item = c.part-item.result in
    let at : slice_get (map part_of list) i ≡ Some (part_of item) =
    slice_get-map part_of list i ∙ ap (option_map part_of) (slice_get_read list (length list) i item refl c.loop-part-test.true c.part-item.is) in
    λ same all. c.part_may_hold.ensures c.if-not-part_may_hold.true (part_at c.args.values.now (map part_of list) i (part_of item) at all)
