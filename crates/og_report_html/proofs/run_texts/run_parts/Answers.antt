use Rattle.std.proofs.Common.{◌≡◌, ◌<◌, ◌≤◌, ℕ, Some, length, map, refl, rules, sym, subst}
use Rattle.std.specs.Prelude.{slice_get}
use Rattle.std.proofs.lemmas.Option.{slice_get_read}
use Rattle.og_report_html.proofs.Charts.{all_go_on, all_end}
use Rattle.og_report_html.proofs.run_texts.run_parts.Goals as goal

pub loop-index-preserved : goal.loop-index-preserved
loop-index-preserved c =
    let diagnoses = c.args.diagnoses.now in
    let runs = c.args.runs.now in
    let i = c.loop-index.index in
    let t = c.index-diagnoses-index.result in
    let r = c.index-runs-index.result in
    let in_runs : i < length runs = subst (λ (n : ℕ). i < n) (sym c.requires) c.loop-index-test.true in
    let first : slice_get diagnoses i ≡ Some t = slice_get_read diagnoses (length diagnoses) i t refl c.loop-index-test.true c.index-diagnoses-index.is in
    let second : slice_get runs i ≡ Some r = slice_get_read runs (length runs) i r refl in_runs c.index-runs-index.is in
    all_go_on c.args.outline.now c.args.source.now c.args.explored diagnoses runs i t r c.loop-index.texts.items c.push.new.self.items c.in_ok-text.text first second c.in_ok-text.ensures c.in_ok-push.ensures.items c.loop-index.invariant

pub returns : goal.returns
returns c =
    let diagnoses = c.args.diagnoses.now in
    let runs = c.args.runs.now in
    let past : length diagnoses ≤ c.loop-index.index = search rules in
    let also : length runs ≤ c.loop-index.index = subst (λ (n : ℕ). n ≤ c.loop-index.index) (sym c.requires) past in
    all_end c.args.outline.now c.args.source.now c.args.explored diagnoses runs c.loop-index.index (map (λ t. t.items) c.loop-index.texts.items) past also c.loop-index.invariant
