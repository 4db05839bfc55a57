use Rattle.std.proofs.Common.{◌≡◌, true, Result, subst, sym}
use Rattle.og_words.specs.declared.job.Job.{Job}
use Rattle.og_words.specs.declared.job.Usage.{Usage}
use Rattle.og_program.specs.World.{world_of, trace_of}
use Rattle.og_program.specs.Sound.{IsProven}
use Rattle.og_program.specs.Unblocked.{IsNeverStuck}
use Rattle.og_program.specs.Opened.{opened, LeavesInput, lacks}
use Rattle.og_program.specs.Served.{Ends, FailsToRead}
use Rattle.og_program.proofs.Ending.{of_job}
use Rattle.og_program.proofs.Status.{sound_job, unblocked_job}
use Rattle.og_program.proofs.serving.serve.Goals as goal

pub returns-in-Ok-clause-ended : goal.returns-in-Ok-clause-ended
returns-in-Ok-clause-ended g c =
    let world = world_of g.F.Files.contents g.F.Files.is_missing g.I.Read.remaining c.args.program.now c.args.streams.now.input in
    let t = trace_of g.O.Write.contents g.E.Write.contents c.args.streams.now c.perform.new.streams c.perform.result in
    subst (λ (r : Result Job Usage). Ends world r t) (sym c.in-Ok.is) c.perform.ensures.ended

pub returns-in-Ok-clause-sound : goal.returns-in-Ok-clause-sound
returns-in-Ok-clause-sound g c =
    let world = world_of g.F.Files.contents g.F.Files.is_missing g.I.Read.remaining c.args.program.now c.args.streams.now.input in
    let t = trace_of g.O.Write.contents g.E.Write.contents c.args.streams.now c.perform.new.streams c.perform.result in
    of_job (λ job. c.perform.result.status ≡ 0 → IsProven world job) c.args.asked c.in-Ok.job c.in-Ok.is
    (sound_job world c.in-Ok.job t c.perform.ensures.ended)

pub returns-in-Ok-clause-unblocked : goal.returns-in-Ok-clause-unblocked
returns-in-Ok-clause-unblocked g c =
    let world = world_of g.F.Files.contents g.F.Files.is_missing g.I.Read.remaining c.args.program.now c.args.streams.now.input in
    let t = trace_of g.O.Write.contents g.E.Write.contents c.args.streams.now c.perform.new.streams c.perform.result in
    of_job (λ job. c.perform.result.status ≡ 0 → IsNeverStuck world t.out job) c.args.asked c.in-Ok.job c.in-Ok.is
    (unblocked_job world c.in-Ok.job t c.perform.ensures.ended)

pub returns-in-Ok-clause-lacking : goal.returns-in-Ok-clause-lacking
returns-in-Ok-clause-lacking g c =
    let t = trace_of g.O.Write.contents g.E.Write.contents c.args.streams.now c.perform.new.streams c.perform.result in
    of_job (λ job. lacks (g.F.Files.is_missing c.args.program.now.files.now) (opened job) ≡ true → FailsToRead job t)
    c.args.asked c.in-Ok.job c.in-Ok.is c.perform.ensures.lacking

pub returns-in-Ok-clause-kept : goal.returns-in-Ok-clause-kept
returns-in-Ok-clause-kept g c =
    of_job (λ job. LeavesInput (opened job) → g.I.Read.remaining c.perform.new.streams.input ≡ g.I.Read.remaining c.args.streams.now.input)
    c.args.asked c.in-Ok.job c.in-Ok.is c.perform.ensures.kept
