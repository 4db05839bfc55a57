use Rattle.std.proofs.Common.{◌≡◌, ◌∙◌, ℕ, List, length, ap, inr, subst}
use Rattle.og_run.specs.Runs.{Given}
use Rattle.og_run.specs.Standing.{Standing}
use Rattle.og_command_run.specs.Schedules.{history_of}
use Rattle.og_command_run.specs.Running.{given, EndsAsked}
use Rattle.og_command_run.proofs.stepping.stepped.Goals as goal

pub returns-in-None : goal.returns-in-None
returns-in-None c =
    let s = c.args.source.now.bytes in
    let o = c.args.outline.now in
    let steps = c.args.steps.now in
    let ran = c.in_ok-ran-in-None.ran in
    let is : c.follow.new.board.given ≡ given o c.args.values (length steps) = c.in-None.ensures.given ∙ ap (λ (b : Standing). b.given) c.in-Ok.ensures.1 in
    inr (subst (λ (g : Given). EndsAsked (λ r. r.history.items ≡ history_of o steps) s g ran) is
    (subst (λ (h : List ℕ). EndsAsked (λ r. r.history.items ≡ h) s c.follow.new.board.given ran) c.in-None.ensures.all c.in_ok-ran-in-None.ensures))
