use Rattle.std.proofs.Common.{◌≡◌, ◌+◌, ◌-◌, length, map, Some, IfSome, refl, ap, ◌∙◌, subst, arith}
use Rattle.std.specs.Prelude.{slice_get, option_map, if◌then◌else◌}
use Rattle.std.proofs.lemmas.Option.{slice_get-map, slice_get_read}
use Rattle.og_cond.specs.Seen.{seen}
use Rattle.og_find.specs.Found.{IsFalseAt}
use Rattle.og_report_explore.proofs.blaming.first_false.Goals as goal

pub returns-in-Some : goal.returns-in-Some
returns-in-Some c =
    let conditions = c.args.conditions.now in
    let i = c.loop-index.index in
    let condition = c.index-conditions-index.result in
    let there : slice_get (map seen conditions) i ≡ Some (seen condition) =
    slice_get-map seen conditions i ∙ ap (option_map seen) (slice_get_read conditions (length conditions) i condition refl c.loop-index-test.true c.index-conditions-index.is) in
    let same : (i + 1) - 1 ≡ i = omega arith in
    let is = subst (λ x. IfSome x (λ side. IsFalseAt (seen condition) (if side then c.args.transition.before.now else c.args.transition.last.now))) c.in-Some.is c.in_ok-side.ensures in
    (omega arith, (seen condition, ap (slice_get (map seen conditions)) same ∙ there, refl, refl, is))
