use Rattle.std.proofs.Common.{◌≡◌, sym, ap, ◌∙◌, subst}
use Rattle.og_theorem.specs.Sound.{IsSound}
use Rattle.og_run.specs.Standing.{Standing}
use Rattle.og_run.specs.Turns.{IsTurn}
use Rattle.og_run.specs.declared.turn.RunTurn.TheVariants as turn
use Rattle.og_run.proofs.Ends.{never_over, free_turn, still_none}
use Rattle.og_run.proofs.proved.ProvedBoard.step.Goals as goal

pub invariant_of-self : goal.invariant_of-self
invariant_of-self c =
    let s : Standing = c.self.inside.board in
    let free = free_turn c.step.result s.halted s.given s.history c.args.p c.self.invariant.1 c.step.ensures.turn in
    let never : c.step.result ≡ turn.Overflow → ⊥ = λ e. never_over s.given s.history c.args.p c.self.invariant.0 c.history.ensures.run (subst (IsTurn s.given s.history c.args.p) e free) in (
      subst (λ (z : Standing). IsSound z.given.outline) (sym c.step.ensures.after) c.self.invariant.0,
      ap (λ (z : Standing). z.halted) c.step.ensures.after ∙ still_none c.step.result s.halted c.args.p c.self.invariant.1 never,
    )

pub returns-clause-never : goal.returns-clause-never
returns-clause-never c = λ e.
    let s : Standing = c.self.inside.board in
    let free = free_turn c.step.result s.halted s.given s.history c.args.p c.self.invariant.1 c.step.ensures.turn in
    never_over s.given s.history c.args.p c.self.invariant.0 c.history.ensures.run (subst (IsTurn s.given s.history c.args.p) e free)
