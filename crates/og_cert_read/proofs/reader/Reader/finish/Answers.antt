use Rattle.std.proofs.Common.{ap, ◌∙◌}
use Rattle.og_cert_text.specs.Plain.{plain_cert, plain_finish}
use Rattle.og_cert_text.specs.Shown.{shown}
use Rattle.og_cert_read.proofs.Taking.{finish_good, finish_open, finish_sound, finish_whole}
use Rattle.og_cert_read.proofs.reader.Reader.finish.Goals as goal

pub enter-requires-clause-good : goal.enter-requires-clause-good
enter-requires-clause-good c =
    finish_good c.args.self.now.number c.args.n c.args.self.now.file c.args.self.now.steps.items c.shrink_to_fit.new.self.items c.args.self.now.levels.items (plain_finish c.args.finish) (plain_cert c.in-Some.whole)
    c.requires.number (c.shrink_to_fit.ensures.items ∙ ap (λ v. v.items) c.replace-steps.ensures.value) c.requires.sound c.requires.good (rw c.in-Some.is at c.in_ok-settle.ensures.settled)

pub returns-in-None-clause-reading : goal.returns-in-None-clause-reading
returns-in-None-clause-reading c =
    finish_open c.args.self.now.number c.args.n (shown c.args.self.now.file) c.args.self.now.steps.items c.shrink_to_fit.new.self.items c.replace-steps.new.dest.items c.args.self.now.levels.items c.settle.new.levels.items (plain_finish c.args.finish)
    c.requires.number (c.shrink_to_fit.ensures.items ∙ ap (λ v. v.items) c.replace-steps.ensures.value) (ap (λ v. v.items) c.replace-steps.ensures.after ∙ c.new.ensures.items) (rw c.in-None.is at c.in_ok-settle.ensures.settled)

pub returns-in-None-clause-sound : goal.returns-in-None-clause-sound
returns-in-None-clause-sound c =
    finish_sound c.args.self.now.number c.args.n c.args.self.now.file c.args.self.now.steps.items c.shrink_to_fit.new.self.items c.replace-steps.new.dest.items c.args.self.now.levels.items c.settle.new.levels.items (plain_finish c.args.finish)
    c.requires.number (c.shrink_to_fit.ensures.items ∙ ap (λ v. v.items) c.replace-steps.ensures.value) (ap (λ v. v.items) c.replace-steps.ensures.after ∙ c.new.ensures.items) c.requires.sound c.requires.good (rw c.in-None.is at c.in_ok-settle.ensures.settled)

pub returns-in-Some-clause-reading : goal.returns-in-Some-clause-reading
returns-in-Some-clause-reading c =
    finish_whole c.enter.result c.args.n (shown c.args.self.now.file) c.enter.new.self c.args.self.now.steps.items c.shrink_to_fit.new.self.items c.args.self.now.levels.items (plain_finish c.args.finish) (plain_cert c.in-Some.whole)
    (c.shrink_to_fit.ensures.items ∙ ap (λ v. v.items) c.replace-steps.ensures.value) (rw c.in-Some.is at c.in_ok-settle.ensures.settled) c.enter.ensures.file c.enter.ensures.number
