use Rattle.std.proofs.Common.{◌≡◌, refl, subst, ℕ, List, Ok, IfSome, Option}
use Rattle.std.proofs.lemmas.Result.{IfOk-at_ok, IfOk-weaker}
use Rattle.std.proofs.lemmas.Option.{IfSome_then}
use Rattle.og_report_text.specs.declared.answer.Answer.{Answer}
use Rattle.og_command_infer.specs.Inferred.{IsJudged, IsCompletion}
use Rattle.og_command_infer.proofs.inferrer.Inferrer.judged_source.Goals as goal

pub returns-clause-report : goal.returns-clause-report
returns-clause-report g c =
    let form = c.args.form in
    let old = c.args.outline.now in
    let text = c.args.source.now.bytes in
    let new = c.outline-new.result.now in
    let completes = c.if-not-completes.ensures refl in
    let completion : (answer : Answer) → c.judged.result ≡ Ok answer → IsCompletion form old text answer = λ answer is.
    let judged = subst (λ (bytes : List ℕ). IsJudged form new bytes answer) c.bytes.ensures.same (IfOk-at_ok (IsJudged form new c.bytes.result.now) is c.judged.ensures.report) in
    record {
      outline = new;
      source = c.outline-new.ensures.source;
      completes = completes;
      judged = judged;
      warrants = c.warranted.ensures completes form answer judged.warrants;
    } in
    IfOk-weaker c.unless_refused.result (λ (some : Option Answer). IfSome some (λ answer. c.judged.result ≡ Ok answer))
    (λ (some : Option Answer). IfSome some (IsCompletion form old text))
    (λ some is. IfSome_then some is completion)
    c.unless_refused.ensures.answer
