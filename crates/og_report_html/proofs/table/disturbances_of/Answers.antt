use Rattle.std.proofs.Common.{◌≡◌, ◌<◌, ℕ, Some, length, refl, sym, subst}
use Rattle.std.specs.Prelude.{slice_get}
use Rattle.std.proofs.lemmas.Option.{slice_get_read, slice_get-get_or}
use Rattle.og_report_html.specs.Table.{disturbances_from}
use Rattle.og_report_html.proofs.Steps.{clash_goes}
use Rattle.og_report_html.proofs.table.disturbances_of.Goals as goal

pub loop-index-preserved : goal.loop-index-preserved
loop-index-preserved c =
    let diagnoses = c.args.diagnoses.now in
    let targets = c.args.targets.now in
    let i = c.loop-index.index in
    let t = c.index-diagnoses-index.result in
    let in_targets : i < length targets = subst (λ (n : ℕ). i < n) (sym c.requires) c.loop-index-test.true in
    let first : slice_get diagnoses i ≡ Some t = slice_get_read diagnoses (length diagnoses) i t refl c.loop-index-test.true c.index-diagnoses-index.is in
    clash_goes c.args.finding i diagnoses targets t _ c.loop-index.found.items c.add_disturbance.new.found.items (disturbances_from c.args.finding 1 diagnoses targets) first (slice_get-get_or targets i _ in_targets) c.in_ok-add_disturbance.ensures c.loop-index.invariant
