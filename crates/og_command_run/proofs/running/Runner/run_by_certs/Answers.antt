use Rattle.std.proofs.Common.{subst}
use Rattle.og_typed.specs.Syntax.{Program}
use Rattle.og_judge.specs.Entries.{AreEntries}
use Rattle.og_judge.specs.Shown.{found_of}
use Rattle.og_command_run.specs.Running.{given, IsAnswerJudged}
use Rattle.og_command_run.proofs.running.Runner.run_by_certs.Goals as goal

pub returns-clause-answered : goal.returns-clause-answered
returns-clause-answered g c =
    let entries = found_of c.in_ok-findings.findings in
    let same = c.outline-outline.ensures.same in (
      entries,
      subst (λ (o : Program). AreEntries c.args.certs.now o entries) same c.in_ok-findings.ensures.entries,
      subst (λ (o : Program). IsAnswerJudged c.args.source.now.bytes entries (given o c.args.values c.args.self.now.limit) c.in_ok-run_judged.field-0) same c.in_ok-run_judged.ensures.answered,
    )
