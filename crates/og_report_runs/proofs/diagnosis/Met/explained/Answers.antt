use Rattle.std.proofs.Common.{subst}
use Rattle.og_typed.specs.Stuck.{IsStuck}
use Rattle.og_cond.specs.Seen.{seen}
use Rattle.og_report_explain.specs.Explanations.{IsExplained}
use Rattle.og_report_runs.proofs.Placed.{explained_with}
use Rattle.og_report_runs.proofs.diagnosis.Met.explained.Goals as goal

pub returns-clause-explained : goal.returns-clause-explained
returns-clause-explained c =
    let o = c.args.self.now.obligation.outline.now in
    let condition = seen c.args.self.now.obligation.condition.now in
    let m = c.args.self.now.moment.now.moment in
    let s = c.with_stands.ensures in
    let diagnosis = subst (λ s. IsExplained o condition s c.in_ok-explanation.explanation) c.state.ensures c.in_ok-explanation.ensures.explained in
    let stuck = subst (λ o. IsStuck o m) c.requires.outline (c.is_stuck.ensures.0 c.if-not-is_stuck.false) in
    explained_with o condition m c.in_ok-explanation.explanation c.with_stands.result c.in_ok-stands.stands diagnosis c.requires.reached stuck c.in_ok-stands.ensures
    s.known s.starts s.test s.action s.after s.fault
