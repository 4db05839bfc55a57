use Rattle.std.proofs.Common.{◌≡◌}
use Rattle.og_cond.specs.Seen.{seen}
use Rattle.og_report_prove.specs.Diagnosis.{IsDiagnosis}
use Rattle.og_report_prove.specs.declared.block.Block.{Block}
use Rattle.og_report_prove.proofs.OfBlock.{both, by_block}
use Rattle.og_report_runs.specs.RunDiagnosis.{IsPlaced, IsDiagnosisAt}
use Rattle.og_report_runs.proofs.diagnosis.diagnosis_at.Goals as goal

pub returns-clause-diagnosis : goal.returns-clause-diagnosis
returns-clause-diagnosis c =
    by_block (IsDiagnosis c.args.outline.now (seen c.args.condition.now)) c.block.result c.of_block.result c.block.ensures.block tt c.of_block.ensures.finding

pub returns-clause-moment : goal.returns-clause-moment
returns-clause-moment c =
    let o = c.args.outline.now in
    let m = c.args.moment.now.moment in
    let here = both c.block.result (λ (b : Block). b.values ≡ m.state) (λ (b : Block). IsPlaced o m b.details.value.explanation.fault) (λ (b : Block). (b.values ≡ m.state) × IsPlaced o m b.details.value.explanation.fault)
    (λ b s p. (s, p)) c.block.ensures.state c.block.ensures.places in
    by_block (IsDiagnosisAt o m) c.block.result c.of_block.result here tt c.of_block.ensures.finding
