use Rattle.std.proofs.Common.{◌≡◌, ◌≤◌, ◌<◌, ◌∙◌, ◌+◌, ◌==◌, ℕ, Some, length, map, refl, ap, sym, subst, rules}
use Rattle.std.specs.Prelude.{slice_get, option_map, IfSome}
use Rattle.std.proofs.lemmas.Option.{slice_get-map, slice_get_read}
use Rattle.og_cond.specs.Seen.{seen}
use Rattle.og_report_prove.specs.Report.{is_proved}
use Rattle.og_lsp_diagnostics.specs.Extents.{place_in}
use Rattle.og_lsp_document.specs.Parts.{found, counted}
use Rattle.og_lsp_diagnostics.specs.Said.{rows_of}
use Rattle.og_lsp_document.proofs.Counting.{asked_goes, counted_few}
use Rattle.og_lsp_document.proofs.parts.asked_of.Goals as goal

pub loop-index-preserved : goal.loop-index-preserved
loop-index-preserved c =
    let rows = rows_of c.args.teller.now.page in
    let conditions = c.args.conditions.now in
    let cs = map seen conditions in
    let ts = c.args.diagnoses.now in
    let i = c.loop-index.index in
    let condition = c.index-conditions-index.result in
    let t = c.index-diagnoses-index.result in
    let in_ts : i < length ts = subst (λ (n : ℕ). i < n) (sym c.requires.each) c.loop-index-test.true in
    let first : slice_get cs i ≡ Some (seen condition) =
    slice_get-map seen conditions i ∙ ap (option_map seen) (slice_get_read conditions (length conditions) i condition refl c.loop-index-test.true c.index-conditions-index.is) in
    let second : slice_get ts i ≡ Some t = slice_get_read ts (length ts) i t refl in_ts c.index-diagnoses-index.is in
    let at : c.place-at.result ≡ place_in rows (seen condition).at = search rules in
    let proved : c.is_proved.result ≡ is_proved t = search rules in
    let step = λ (p : ℕ).
    c.in_ok-add_one.ensures p ∙ ap (λ (n : ℕ). counted (p == n) c.is_proved.result (found p c.loop-index.asked)) at
    ∙ ap (λ b. counted (p == place_in rows (seen condition).at) b (found p c.loop-index.asked)) proved in
    record {
      whole = λ p. asked_goes rows p i cs ts (seen condition) t (found p c.loop-index.asked) (found p c.add_one.new.asked) _ first second (step p) (c.loop-index.invariant.whole p);
      few = λ p. subst (λ o. IfSome o (λ k. (k.conditions ≤ i + 1) × (k.unproved ≤ i + 1))) (sym (step p))
          (counted_few (p == place_in rows (seen condition).at) (is_proved t) (found p c.loop-index.asked) i (c.loop-index.invariant.few p));
    }
