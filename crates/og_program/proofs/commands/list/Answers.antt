use Rattle.std.proofs.Common.{ℕ, List, subst}
use Rattle.std.proofs.lemmas.Result.{IfOk-weaker, IfErr-weaker}
use Rattle.og_typed.specs.Syntax.{Program}
use Rattle.og_typed.specs.Source.{IsSource}
use Rattle.og_report_text.specs.InputErrors.{OnFault, IsFaultOfCount, IsFaultOfConditions}
use Rattle.og_report_conditions.specs.Chosen.{IsReply}
use Rattle.og_report_conditions.specs.declared.form.Form.{Form}
use Rattle.og_program.specs.Commands.{IsListing}
use Rattle.og_program.proofs.Refusals.{fault_counted}
use Rattle.og_program.proofs.commands.list.Goals as goal

pub returns-clause-listing : goal.returns-clause-listing
returns-clause-listing c =
    let conditions = c.args.conditions.now in
    let source = c.in_ok-source.source in
    IfOk-weaker c.listed.result (IsReply c.form_of-form.result conditions.only source.outline source.bytes) (λ reply. (o : Program) × IsSource c.args.bytes.now o × IsListing conditions o c.args.bytes.now reply)
    (λ reply h. (
      source.outline,
      c.in_ok-source.ensures.outline,
      subst (λ (b : List ℕ). IsListing conditions source.outline b reply) c.in_ok-source.ensures.same
          (subst (λ (f : Form). IsReply f conditions.only source.outline source.bytes reply) c.form_of-form.ensures h),
    )) c.listed.ensures.reply

pub returns-clause-refused : goal.returns-clause-refused
returns-clause-refused c =
    let o = c.in_ok-source.source.outline in
    IfErr-weaker c.listed.result (OnFault (IsFaultOfCount o)) (OnFault (IsFaultOfConditions c.args.bytes.now))
    (λ error. fault_counted c.args.bytes.now o error c.in_ok-source.ensures.outline) c.listed.ensures.refused
