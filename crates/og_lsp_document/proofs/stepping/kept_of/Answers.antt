use Rattle.std.proofs.Common.{◌≡◌, ◌≤◌, ◌<◌, ◌∙◌, ◌+◌, ℕ, Some, length, map, refl, ap, sym, subst, rules}
use Rattle.std.specs.Prelude.{slice_get, option_map, IfSome}
use Rattle.std.proofs.lemmas.Option.{slice_get-map, slice_get_read}
use Rattle.og_cond.specs.Seen.{seen}
use Rattle.og_report_prove.specs.Report.{is_proved}
use Rattle.og_lsp_diagnostics.specs.Said.{rows_of}
use Rattle.og_lsp_document.specs.Parts.{found, with_all}
use Rattle.og_lsp_document.specs.Stepping.{kept_by}
use Rattle.og_lsp_document.proofs.Stepped.{kept_goes, kept_few, few_bounded}
use Rattle.og_lsp_document.proofs.stepping.kept_of.Goals as goal

pub add_kept-requires : goal.add_kept-requires
add_kept-requires c = λ p.
    let less : c.loop-index.index < length c.args.diagnoses.now = subst (λ (n : ℕ). c.loop-index.index < n) (sym c.requires.each) c.loop-index-test.true in
    few_bounded (found p c.loop-index.asked) c.loop-index.index (length c.args.diagnoses.now) (c.loop-index.invariant.few p) less c.requires.few

pub loop-index-preserved : goal.loop-index-preserved
loop-index-preserved c =
    let rows = rows_of c.args.teller.now.page in
    let conditions = c.args.conditions.now in
    let cs = map seen conditions in
    let ts = c.args.diagnoses.now in
    let i = c.loop-index.index in
    let condition = c.index-conditions-index.result in
    let t = c.index-diagnoses-index.result in
    let in_ts : i < length ts = subst (λ (n : ℕ). i < n) (sym c.requires.each) c.loop-index-test.true in
    let first : slice_get cs i ≡ Some (seen condition) =
    slice_get-map seen conditions i ∙ ap (option_map seen) (slice_get_read conditions (length conditions) i condition refl c.loop-index-test.true c.index-conditions-index.is) in
    let second : slice_get ts i ≡ Some t = slice_get_read ts (length ts) i t refl in_ts c.index-diagnoses-index.is in
    let proved : c.is_proved-is_proved.result ≡ is_proved t = search rules in
    let step = λ (p : ℕ).
    c.in_ok-add_kept.ensures p ∙ ap (λ b. with_all p (found p c.loop-index.asked) (kept_by rows (seen condition) b)) proved in
    record {
      whole = λ p. kept_goes rows p i cs ts (seen condition) t (found p c.loop-index.asked) (found p c.add_kept.new.asked) _ first second (step p) (c.loop-index.invariant.whole p);
      few = λ p. subst (λ o. IfSome o (λ k. (k.conditions ≤ i + 1) × (k.unproved ≤ i + 1))) (sym (step p))
          (kept_few p rows (is_proved t) (seen condition).action_at (found p c.loop-index.asked) i (c.loop-index.invariant.few p));
    }
