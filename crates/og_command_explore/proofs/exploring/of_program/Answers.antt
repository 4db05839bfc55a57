use Rattle.std.proofs.Common.{◌≡◌, rules}
use Rattle.og_typed.specs.Erase.{erased}
use Rattle.og_report_text.specs.Subject.{subject_of}
use Rattle.og_command_explore.proofs.Programs.{of_erased}
use Rattle.og_command_explore.proofs.exploring.of_program.Goals as goal

pub returns-then-request-clause-answer : goal.returns-then-request-clause-answer
returns-then-request-clause-answer g c =
    let s = subject_of c.args.subject.now in
    let same : c.outline.result.now ≡ erased s.outline = search rules in
    of_erased c.args.request.json c.args.request.erased s c.outline.result.now c.args.ranges.now c.of_outline.result c.if-request.true same c.of_outline.ensures.answer
