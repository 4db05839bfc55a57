use Rattle.std.proofs.Common.{◌≡◌, ◌<◌, ◌∙◌, ℕ, Some, length, map, refl, ap, sym, subst}
use Rattle.std.specs.Prelude.{slice_get, option_map}
use Rattle.std.proofs.lemmas.Option.{slice_get-map, slice_get_read, slice_get-get_or}
use Rattle.og_cond.specs.Seen.{seen}
use Rattle.og_report_html.specs.Marks.{found, mark_at}
use Rattle.og_report_html.proofs.Marking.{diagnosis_goes}
use Rattle.og_report_html.proofs.marks.marks_of.Goals as goal

pub loop-index-preserved : goal.loop-index-preserved
loop-index-preserved c = λ (p : ℕ).
    let conditions = c.args.conditions.now in
    let diagnoses = c.args.diagnoses.now in
    let targets = c.args.targets.now in
    let i = c.loop-index.index in
    let condition = c.index-conditions-index.result in
    let t = c.index-diagnoses-index.result in
    let in_told : i < length diagnoses = subst (λ (n : ℕ). i < n) (sym c.requires.diagnoses) c.loop-index-test.true in
    let in_targets : i < length targets = subst (λ (n : ℕ). i < n) (sym c.requires.targets) c.loop-index-test.true in
    let first : slice_get (map seen conditions) i ≡ Some (seen condition) =
    slice_get-map seen conditions i ∙ ap (option_map seen) (slice_get_read conditions (length conditions) i condition refl c.loop-index-test.true c.index-conditions-index.is) in
    let second : slice_get diagnoses i ≡ Some t = slice_get_read diagnoses (length diagnoses) i t refl in_told c.index-diagnoses-index.is in
    diagnosis_goes c.args.rows p i (map seen conditions) diagnoses targets (seen condition) t _ (found p c.loop-index.marks) (found p c.add_diagnosis.new.marks) (mark_at c.args.rows (map seen conditions) diagnoses targets p)
    first second (slice_get-get_or targets i _ in_targets) (c.in_ok-add_diagnosis.ensures p) (c.loop-index.invariant p)
