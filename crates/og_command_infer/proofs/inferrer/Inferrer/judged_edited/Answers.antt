use Rattle.std.proofs.Common.{subst, ℕ, List, IfOk, IfSome, Option}
use Rattle.og_report_text.specs.declared.answer.Answer.{Answer}
use Rattle.og_command_infer.specs.Inferred.{IsCompletion}
use Rattle.og_command_infer.proofs.inferrer.Inferrer.judged_edited.Goals as goal

pub returns-in-Ok-clause-report : goal.returns-in-Ok-clause-report
returns-in-Ok-clause-report g c =
    subst (λ (text : List ℕ). IfOk c.judged_source.result (λ (some : Option Answer). IfSome some (IsCompletion c.args.form c.args.outline.now text)))
    c.in-Ok.ensures.same c.judged_source.ensures.report
