use Rattle.std.proofs.Common.{sym, ◌∙◌, refl, false}
use Rattle.std.proofs.lemmas.Bool.{both_ways}
use Rattle.og_violation.proofs.Runs.{reached_shaped}
use Rattle.og_violation.proofs.Activity.{overflow_wrong, wrong_overflow}
use Rattle.og_violation.proofs.moments.overflows.Goals as goal

pub returns-in-Overflow : goal.returns-in-Overflow
returns-in-Overflow c =
    let o = c.args.outline.now in
    let m = c.args.moment.now.moment in
    (λ _. overflow_wrong o m (reached_shaped o m c.requires.1) c.args.p (sym c.step.ensures.turn ∙ c.in-Overflow.is), λ _. refl)

pub returns-in_default : goal.returns-in_default
returns-in_default c =
    let o = c.args.outline.now in
    let m = c.args.moment.now.moment in (
      λ no. absurd (both_ways false refl no),
      λ wrong. absurd (c.in_default.not-Overflow (c.step.ensures.turn ∙ wrong_overflow o m (reached_shaped o m c.requires.1) c.args.p wrong)),
    )
