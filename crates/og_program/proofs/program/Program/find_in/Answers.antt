use Rattle.std.proofs.Common.{ℕ, List, subst}
use Rattle.std.proofs.lemmas.Result.{IfOk-weaker, IfErr-weaker}
use Rattle.og_typed.specs.Syntax.{Program}
use Rattle.og_typed.specs.Source.{IsSource}
use Rattle.og_judge.specs.NotJudged.{OnInput}
use Rattle.og_report_text.specs.InputErrors.{IsFaultOfCount, IsFaultOfConditions}
use Rattle.og_command_check.specs.Making.{IsFound}
use Rattle.og_program.proofs.Refusals.{refusal_counted}
use Rattle.og_program.proofs.program.Program.find_in.Goals as goal

pub returns-clause-found : goal.returns-clause-found
returns-clause-found g c =
    let o = c.outline.result.now in
    let wanted = c.args.wanted in
    IfOk-weaker c.found.result (IsFound wanted.version wanted.limit o) (λ reply. (p : Program) × IsSource c.args.bytes.now p × IsFound wanted.version wanted.limit p reply)
    (λ reply h. (o, subst (λ (b : List ℕ). IsSource b o) c.in_ok-source.ensures.same c.outline.ensures.source, h)) c.found.ensures.found

pub returns-clause-refused : goal.returns-clause-refused
returns-clause-refused g c =
    let o = c.outline.result.now in
    let bytes = c.args.bytes.now in
    IfErr-weaker c.found.result (OnInput (IsFaultOfCount o)) (OnInput (IsFaultOfConditions bytes))
    (λ refusal. refusal_counted bytes o refusal (subst (λ (b : List ℕ). IsSource b o) c.in_ok-source.ensures.same c.outline.ensures.source)) c.found.ensures.refused
