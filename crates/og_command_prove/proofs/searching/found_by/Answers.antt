use Rattle.std.proofs.Common.{◌≡◌, ◌<◌, ◌+◌, ◌++◌, ◌∷◌, [], length, map, get_or, refl, sym, subst, None, arith}
use Rattle.std.proofs.lemmas.List.{length-map}
use Rattle.og_cond.specs.Condition.{Condition}
use Rattle.og_cond.specs.Seen.{seen}
use Rattle.og_report_prove.specs.Diagnosis.{IsDiagnosis}
use Rattle.og_report_runs.specs.declared.witness.Run.TheVariants as run
use Rattle.og_command_prove.specs.Found.{IsFound}
use Rattle.og_command_prove.proofs.Columns.{verdict_true, AreFoundTo, found_more, found_all, shown_at}
use Rattle.og_command_prove.proofs.searching.found_by.Goals as goal

pub diagnosed_by-requires-clause-verdict : goal.diagnosed_by-requires-clause-verdict
diagnosed_by-requires-clause-verdict c =
    let below : c.loop-index.index < length c.args.conditions.items = omega (arith, c.loop-index-test.true, c.len-index-end.ensures) in
    verdict_true seen c.args.conditions.items c.args.verdicts.now c.loop-index.index c.index.result.now c.verdict-verdict.result c.requires.verdicts below c.index.ensures c.verdict-verdict.ensures

pub loop-index-preserved : goal.loop-index-preserved
loop-index-preserved c =
    let o = c.args.diagnoser.outline.now in
    let conditions = c.args.conditions.items in
    let cs = map seen conditions in
    let i = c.loop-index.index in
    let ts = c.loop-index.diagnoses.items in
    let rs = c.loop-index.runs.items in
    let t = c.in_ok-diagnosed_by.field-0 in
    let is = c.in_ok-diagnosed_by.ensures in
    let below : i < length conditions = omega (arith, c.loop-index-test.true, c.len-index-end.ensures) in
    let within : i < length cs = omega (arith, below, length-map conditions seen) in
    let new : (d : Condition) → IsFound o None (get_or cs i d) t run.Open = λ d. (subst (λ z. IsDiagnosis o z t) (sym (shown_at seen conditions i c.index.result.now d below c.index.ensures)) is.diagnosis, is.allowed, refl) in
    subst (λ z. AreFoundTo o None cs (i + 1) z c.push-in-loop-index.new.self.items) (sym c.in_ok-push.ensures.items)
    (subst (AreFoundTo o None cs (i + 1) (ts ++ t ∷ [])) (sym c.in_ok-push-2.ensures.items) (found_more o None cs i ts rs t run.Open within c.loop-index.invariant new))

pub returns-clause-found : goal.returns-clause-found
returns-clause-found c =
    let conditions = c.args.conditions.items in
    let whole : c.loop-index.index ≡ length (map seen conditions) = omega (arith, length-map conditions seen, c.loop-index-test.false, c.loop-index.auto.index-end, c.len-index-end.ensures) in
    found_all c.args.diagnoser.outline.now None (map seen conditions) c.loop-index.index c.loop-index.diagnoses.items c.loop-index.runs.items whole c.loop-index.invariant
