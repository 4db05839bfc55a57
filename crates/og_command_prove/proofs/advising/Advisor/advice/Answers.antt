use Rattle.std.proofs.Common.{◌≤◌, ◌+◌, length, map, get_or, sym, subst, arith}
use Rattle.std.proofs.lemmas.List.{length-map}
use Rattle.og_cond.specs.Condition.{Condition}
use Rattle.og_cond.specs.Seen.{seen}
use Rattle.og_report_prove.specs.declared.diagnosis.Diagnosis.{Diagnosis}
use Rattle.og_command_prove.specs.Advice.{places_of, IsAdvice}
use Rattle.og_command_prove.proofs.Columns.{AreAdvisedTo, advised_more, advised_all, shown_at, diagnosis_at}
use Rattle.og_command_prove.proofs.advising.Advisor.advice.Goals as goal

pub returns-then-tried-gt-MOST_ADVISED : goal.returns-then-tried-gt-MOST_ADVISED
returns-then-tried-gt-MOST_ADVISED c =
    let conditions = c.args.conditions.now in
    let short : c.loop-index.index ≤ length (map seen conditions) = omega (arith, length-map conditions seen, c.loop-index.auto.index-end) in
    advised_all (map seen conditions) c.args.diagnoses.now c.loop-index.index c.loop-index.all.items short c.loop-index.invariant

pub loop-index-preserved : goal.loop-index-preserved
loop-index-preserved c =
    let conditions = c.args.conditions.now in
    let cs = map seen conditions in
    let ts = c.args.diagnoses.now in
    let i = c.loop-index.index in
    let a = c.in_ok-advice_of.field-0 in
    let t = c.index-diagnoses-index.result in
    let new = λ (d : Condition) (u : Diagnosis).
    subst (λ z. IsAdvice z (places_of (get_or ts i u)) a.items) (sym (shown_at seen conditions i c.index-conditions-index.result d c.loop-index-test.true c.index-conditions-index.is))
    (subst (λ z. IsAdvice (seen c.index-conditions-index.result) (places_of z) a.items) (diagnosis_at ts i t u (omega (arith, c.loop-index-test.true, c.requires.each)) c.index-diagnoses-index.is) c.in_ok-advice_of.ensures) in
    subst (AreAdvisedTo cs ts (i + 1)) (sym c.in_ok-push.ensures.items) (advised_more cs ts i c.loop-index.all.items a c.loop-index.invariant new)

pub returns : goal.returns
returns c =
    let conditions = c.args.conditions.now in
    let short : c.loop-index.index ≤ length (map seen conditions) = omega (arith, length-map conditions seen, c.loop-index.auto.index-end) in
    advised_all (map seen conditions) c.args.diagnoses.now c.loop-index.index c.loop-index.all.items short c.loop-index.invariant
