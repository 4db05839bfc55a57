use Rattle.std.proofs.Common.{ap, subst, ◌∙◌, ◌≡◌, true, Ok}
use Rattle.og_cert_text.specs.declared.cert.CertStep.TheVariants as step_type
use Rattle.og_cert_text.specs.Lines.{is_line}
use Rattle.og_cert_text.specs.Shown.{shown}
use Rattle.og_cert_read.specs.Said.{said_line}
use Rattle.og_cert_read.specs.Reading.{line_within}
use Rattle.og_cert_read.specs.Reader.{version_of, frames_of}
use Rattle.og_cert_read.proofs.Taking.{step_taken, step_sound}
use Rattle.og_cert_read.proofs.reader.Reader.within.Goals as goal

pub returns-in_ok-push-in-Sum : goal.returns-in_ok-push-in-Sum
returns-in_ok-push-in-Sum c =
    let s = step_type.Sum c.in-Sum.terms in (
      ap (λ l. line_within (version_of c.args.version) (shown c.args.self.now.file) c.args.n (frames_of c.args.self.now) (said_line l)) c.in-Sum.is
          ∙ ap Ok (step_taken c.args.self.now.number c.args.n (shown c.args.self.now.file) c.args.self.now.file c.args.self.now.steps.items c.push.new.self.items c.args.self.now.levels.items s c.requires.number c.in_ok-push-in-Sum.ensures.items),
      step_sound c.args.self.now.number c.args.n c.args.self.now.file c.args.self.now.steps.items c.push.new.self.items c.args.self.now.levels.items s c.requires.number c.in_ok-push-in-Sum.ensures.items
          (subst (λ l. is_line (said_line l) ≡ true) c.in-Sum.is c.requires.good) c.requires.sound,
    )

pub returns-in_ok-push-in-Cut : goal.returns-in_ok-push-in-Cut
returns-in_ok-push-in-Cut c =
    let s = step_type.Cut c.in-Cut.fact c.in-Cut.divisor in (
      ap (λ l. line_within (version_of c.args.version) (shown c.args.self.now.file) c.args.n (frames_of c.args.self.now) (said_line l)) c.in-Cut.is
          ∙ ap Ok (step_taken c.args.self.now.number c.args.n (shown c.args.self.now.file) c.args.self.now.file c.args.self.now.steps.items c.push-in-Cut.new.self.items c.args.self.now.levels.items s c.requires.number c.in_ok-push-in-Cut.ensures.items),
      step_sound c.args.self.now.number c.args.n c.args.self.now.file c.args.self.now.steps.items c.push-in-Cut.new.self.items c.args.self.now.levels.items s c.requires.number c.in_ok-push-in-Cut.ensures.items
          (subst (λ l. is_line (said_line l) ≡ true) c.in-Cut.is c.requires.good) c.requires.sound,
    )
