use Rattle.og_judge.proofs.Answering.{refusal_spawn}
use Rattle.og_command_check.proofs.Answering.{judged, refused, refused_is_not_0}
use Rattle.og_command_check.proofs.answer.Checker.answer.Goals as goal

pub returns-in-Ok-clause-answer : goal.returns-in-Ok-clause-answer
returns-in-Ok-clause-answer g c = judged c.args.self.now.options.json c.args.source.now c.args.certs.now c.in-Ok.checked c.in-Ok.ensures.report

pub returns-in-Err-clause-answer : goal.returns-in-Err-clause-answer
returns-in-Err-clause-answer g c = refused c.args.self.now.options.json c.args.source.now c.args.certs.now c.in-Err.refusal c.answer.result c.in-Err.ensures.refused c.answer.ensures

pub returns-in-Err-clause-sound : goal.returns-in-Err-clause-sound
returns-in-Err-clause-sound g c = refused_is_not_0 _ c.args.source.now c.in-Err.refusal c.answer.result c.answer.ensures

pub returns-in-Err-clause-unblocked : goal.returns-in-Err-clause-unblocked
returns-in-Err-clause-unblocked g c = refused_is_not_0 _ c.args.source.now c.in-Err.refusal c.answer.result c.answer.ensures

pub returns-in-Err-clause-spawn : goal.returns-in-Err-clause-spawn
returns-in-Err-clause-spawn g c = refusal_spawn c.args.source.now c.args.self.now.options.workers c.in-Err.refusal c.answer.result c.answer.ensures c.in-Err.ensures.spawn
