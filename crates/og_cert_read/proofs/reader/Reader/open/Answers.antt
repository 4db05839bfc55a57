use Rattle.std.proofs.Common.{ap, ◌∙◌}
use Rattle.og_cert_read.proofs.Taking.{open_frames}
use Rattle.og_cert_read.proofs.reader.Reader.open.Goals as goal

pub returns-clause-frames : goal.returns-clause-frames
returns-clause-frames c =
    open_frames c.replace-steps.new.dest.items c.args.self.now.steps.items c.push.new.self.items c.args.self.now.levels.items (record { steps = c.replace-steps.result; fork = c.args.fork })
    (ap (λ v. v.items) c.replace-steps.ensures.after ∙ c.new.ensures.items) c.in_ok-push.ensures.items (ap (λ v. v.items) c.replace-steps.ensures.value)
