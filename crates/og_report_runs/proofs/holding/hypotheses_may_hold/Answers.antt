use Rattle.std.proofs.Common.{◌≡◌, Some, length, map, slice_get, refl, ap, ◌∙◌}
use Rattle.std.specs.Prelude.{option_map}
use Rattle.std.proofs.lemmas.Option.{slice_get-map, slice_get_read}
use Rattle.og_cond.specs.Seen.{hypothesis_of}
use Rattle.og_report_runs.proofs.Parts.{hypothesis_at}
use Rattle.og_report_runs.proofs.holding.hypotheses_may_hold.Goals as goal

pub returns-then-not-hypothesis_may_hold : goal.returns-then-not-hypothesis_may_hold
returns-then-not-hypothesis_may_hold c =
    let list = c.args.hypotheses.now in
    let i = c.loop-hypothesis.hypothesis-index in
    let item = c.hypothesis-item.result in
    let at : slice_get (map hypothesis_of list) i ≡ Some (hypothesis_of item) =
    slice_get-map hypothesis_of list i ∙ ap (option_map hypothesis_of) (slice_get_read list (length list) i item refl c.loop-hypothesis-test.true c.hypothesis-item.is) in
    λ same all. c.hypothesis_may_hold.ensures c.if-not-hypothesis_may_hold.true (hypothesis_at c.args.values.now (map hypothesis_of list) i (hypothesis_of item) at all)
