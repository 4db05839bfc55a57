use Rattle.std.proofs.Common.{◌≡◌, subst, sym}
use Rattle.std.specs.Prelude.{IfOk}
use Rattle.og_cond.specs.Seen.{seen}
use Rattle.og_cert_text.specs.Plain.{plain_cert}
use Rattle.og_find.specs.Found.{IsVerdict}
use Rattle.og_find.proofs.Certified.{certified_valid}
use Rattle.og_report_explain.specs.Explanations.{AreAllowed}
use Rattle.og_report_prove.specs.declared.block.Block.{Block}
use Rattle.og_report_prove.specs.Diagnosis.{IsDiagnosis, IsOfState, IsAllowed, Follows}
use Rattle.og_report_prove.proofs.OfBlock.{by_block, both}
use Rattle.og_report_prove.proofs.diagnosis.diagnose.Goals as goal

pub returns-in-True-clause-diagnosis : goal.returns-in-True-clause-diagnosis
returns-in-True-clause-diagnosis c =
    let condition = seen c.args.condition.now in
    certified_valid condition (plain_cert c.in-True.field-0) (subst (IsVerdict condition) c.in-True.is c.requires.verdict)

pub returns-in-False-clause-diagnosis : goal.returns-in-False-clause-diagnosis
returns-in-False-clause-diagnosis c =
    by_block (IsDiagnosis c.args.outline.now (seen c.args.condition.now)) c.block_at.result c.of_block.result c.block_at.ensures.block tt c.of_block.ensures.finding

pub returns-in-False-clause-allowed : goal.returns-in-False-clause-allowed
returns-in-False-clause-allowed c =
    let o = c.args.outline.now in
    let state = c.in-False.state in
    let allowed = both c.block_at.result (λ (b : Block). b.values ≡ state) (λ (b : Block). AreAllowed o state b.details.value.explanation.fault) (λ (b : Block). AreAllowed o b.values b.details.value.explanation.fault)
    (λ b v a. subst (λ values. AreAllowed o values b.details.value.explanation.fault) (sym v) a) c.block_at.ensures.state c.block_at.ensures.allowed in
    by_block (IsAllowed o) c.block_at.result c.of_block.result allowed tt c.of_block.ensures.finding

pub returns-in-False-clause-follows : goal.returns-in-False-clause-follows
returns-in-False-clause-follows c =
    subst (λ v. IfOk c.of_block.result (Follows v)) (sym c.in-False.is)
    (by_block (IsOfState c.in-False.state) c.block_at.result c.of_block.result c.block_at.ensures.state tt c.of_block.ensures.finding)
