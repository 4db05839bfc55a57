use Rattle.og_program.specs.World.{world_of, trace_of}
use Rattle.og_program.proofs.Ending.{of_outcome, lacking}
use Rattle.og_program.proofs.program.Program.perform.Goals as goal

pub returns-clause-ended : goal.returns-clause-ended
returns-clause-ended g c =
    of_outcome (world_of g.F.Files.contents g.F.Files.is_missing g.I.Read.remaining c.args.self.now c.args.streams.now.input) c.args.job.now
    (trace_of g.O.Write.contents g.E.Write.contents c.args.streams.now (record c.args.streams.now { input = c.outcome-outcome.new.input; out = c.write_result.new.out; err = c.write_result.new.err }) c.write_result.result)
    c.outcome-outcome.result c.outcome-outcome.ensures.outcome c.outcome-outcome.ensures.fault c.write_result.ensures.ok c.write_result.ensures.err

pub returns-clause-lacking : goal.returns-clause-lacking
returns-clause-lacking g c = λ lacks.
    lacking c.args.job.now _
    (trace_of g.O.Write.contents g.E.Write.contents c.args.streams.now (record c.args.streams.now { input = c.outcome-outcome.new.input; out = c.write_result.new.out; err = c.write_result.new.err }) c.write_result.result)
    c.outcome-outcome.result (c.outcome-outcome.ensures.missing lacks) c.outcome-outcome.ensures.fault c.write_result.ensures.err
