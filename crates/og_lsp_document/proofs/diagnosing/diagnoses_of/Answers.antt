use Rattle.std.proofs.Common.{◌<◌, ◌∷◌, [], ◌++◌, ℕ, sym, subst, map, length, take}
use Rattle.std.proofs.lemmas.List.{length-map}
use Rattle.og_cond.specs.Seen.{seen}
use Rattle.og_report_prove.specs.Diagnosis.{AreDiagnoses}
use Rattle.og_report_prove.proofs.Lists.{taken}
use Rattle.og_lsp_document.proofs.Verdicts.{one_diagnosed, some_at}
use Rattle.og_lsp_document.proofs.diagnosing.diagnoses_of.Goals as goal

pub loop-i-preserved : goal.loop-i-preserved
loop-i-preserved c =
    let o = c.args.outline.now in
    let cs = map seen c.args.conditions.now in
    let i = c.loop-i.i in
    let inside : i < length cs = subst (λ (n : ℕ). i < n) (sym (length-map c.args.conditions.now seen)) c.loop-i-test.true in
    let s = some_at cs i inside in
    let ts = c.loop-i.diagnoses.items in
    let t = c.in_ok-diagnosis.diagnosis in
    subst (λ k. AreDiagnoses o k c.push.new.self.items) (sym (taken cs i s.0 s.1))
    (subst (λ us. AreDiagnoses o (take i cs ++ s.0 ∷ []) us) (sym c.in_ok-push.ensures.items)
    (one_diagnosed o (take i cs) ts s.0 t c.loop-i.invariant (c.in_ok-diagnosis.ensures s.0 s.1)))
