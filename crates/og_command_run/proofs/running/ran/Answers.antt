use Rattle.std.proofs.Common.{inr, map, subst}
use Rattle.og_typed.specs.Syntax.{Program}
use Rattle.og_command_run.specs.Words.{Give}
use Rattle.og_command_run.specs.Running.{given, program_of, IsAnswer}
use Rattle.og_command_run.proofs.running.ran.Goals as goal

pub returns-in_ok-ran-in-Ok-clause-answered : goal.returns-in_ok-ran-in-Ok-clause-answered
returns-in_ok-ran-in-Ok-clause-answered g c =
    let same = c.outline-outline.ensures.same in
    let values = c.in-Ok.values in
    inr (
      values,
      subst (λ (o : Program). Give o (map (λ w. w.now) c.args.words.now) values) same c.in-Ok.ensures.values,
      subst (λ (o : Program). IsAnswer c.args.source.now.bytes (given (program_of c.args.erased o) values c.args.runner.now.limit) c.in_ok-ran-in-Ok.ran) same c.in_ok-ran-in-Ok.ensures.answered,
    )
