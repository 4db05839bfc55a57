use Rattle.og_judge.specs.Shown.{outline_of, entries_of}
use Rattle.og_command_check.proofs.Answering.{few_entries, reported}
use Rattle.og_command_check.proofs.Promised.{sound_source, unblocked_source}
use Rattle.og_command_check.proofs.answer.checked.Goals as goal

pub of_judgement-checked-requires-clause-few : goal.of_judgement-checked-requires-clause-few
of_judgement-checked-requires-clause-few g c =
    let j = c.in_ok-judgement.judgement in
    few_entries c.args.source.now c.args.certs.now (outline_of j) (entries_of j) c.in_ok-judgement.ensures.report

pub returns-clause-report : goal.returns-clause-report
returns-clause-report g c =
    let j = c.in_ok-judgement.judgement in
    reported c.args.options.json c.args.source.now c.args.certs.now (outline_of j) (entries_of j) c.in_ok-checked.field-0 c.in_ok-judgement.ensures.report c.in_ok-checked.ensures.reports

pub returns-clause-sound : goal.returns-clause-sound
returns-clause-sound g c =
    let j = c.in_ok-judgement.judgement in
    sound_source c.args.options.json c.args.source.now (outline_of j) c.in_ok-checked.field-0.answer c.in_ok-judgement.ensures.report.outline c.in_ok-checked.ensures.promises

pub returns-clause-unblocked : goal.returns-clause-unblocked
returns-clause-unblocked g c =
    let j = c.in_ok-judgement.judgement in
    unblocked_source c.args.options.json c.args.source.now (outline_of j) c.in_ok-checked.field-0.answer c.in_ok-judgement.ensures.report.outline c.in_ok-checked.ensures.promises
