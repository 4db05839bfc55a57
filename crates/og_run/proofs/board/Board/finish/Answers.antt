use Rattle.std.proofs.Common.{◌≡◌, ℕ, ◌<◌, length, is_some, Some, sym, ap, ◌∙◌, subst, arith}
use Rattle.std.specs.Prelude.{IfSome}
use Rattle.og_typed.specs.Machine.{Moment}
use Rattle.og_typed.specs.Stuck.{IsStuck}
use Rattle.og_run.specs.Runs.{moment_after}
use Rattle.og_run.specs.Histories.{process_count}
use Rattle.og_run.specs.Turns.{IsTurn}
use Rattle.og_run.specs.declared.turn.RunTurn.TheVariants as turn
use Rattle.og_run.specs.declared.outcome.Finish.TheVariants.{Overflow}
use Rattle.og_run.specs.Standing.{Standing}
use Rattle.og_run.specs.Ends.{IsFinish}
use Rattle.og_run.specs.Over.{OverAt}
use Rattle.og_run.proofs.Boards.{not_stuck}
use Rattle.og_run.proofs.Ends.{finish_some, finish_of, over_active}
use Rattle.og_run.proofs.board.Board.finish.Goals as goal

pub unreachable-requires : goal.unreachable-requires
unreachable-requires c =
    let s : Standing = record { given = c.self.inside.setting; history = c.self.inside.history.items; halted = c.self.inside.halted } in
    let a = c.self.inside.moment in
    let is = c.self.invariant.0 in
    let over = subst (λ (z : Standing). (p : ℕ) → p < process_count z.given.outline → OverAt z.given z.history (is_some z.halted) p) (sym c.self.view_is) c.requires in
    let free : IsStuck s.given.outline a.moment → ⊥ = λ stuck. not_stuck c.is_stuck.result (IsStuck a.outline a.moment) c.is_stuck.ensures c.if-is_stuck.false (subst (λ o. IsStuck o a.moment) (sym is.outline) stuck) in
    let room : length c.self.inside.history.items < c.self.inside.setting.limit = omega (arith, c.is_full.ensures.room c.if-is_full.false, c.limit.ensures) in
    finish_some s.given s.history (is_some s.halted) a.moment is.leads over (sym c.is_finished.ensures ∙ c.if-is_finished.false) free room (ap is_some c.in_default.is)

pub returns : goal.returns
returns c =
    let s : Standing = record { given = c.self.inside.setting; history = c.self.inside.history.items; halted = c.self.inside.halted } in
    let a = c.self.inside.moment in
    let is = c.self.invariant.0 in
    let p : ℕ = c.in-Some.p in
    let free : IsStuck s.given.outline a.moment → ⊥ = λ stuck. not_stuck c.is_stuck.result (IsStuck a.outline a.moment) c.is_stuck.ensures c.if-is_stuck.false (subst (λ o. IsStuck o a.moment) (sym is.outline) stuck) in
    let room : length c.self.inside.history.items < c.self.inside.setting.limit = omega (arith, c.is_full.ensures.room c.if-is_full.false, c.limit.ensures) in
    let noted : IsTurn s.given s.history p turn.Overflow = subst (λ o. IfSome o (λ q. IsTurn s.given s.history q turn.Overflow)) c.in-Some.is is.noted in
    let both = over_active s.given s.history p a.moment is.leads noted in
    subst (λ (z : Standing). (m : Moment) → moment_after z.given z.history ≡ Some m → IsFinish z.given z.history m (Overflow p)) c.self.view_is (λ m e. finish_of s.given s.history (Overflow p) a.moment m is.leads e (sym c.is_finished.ensures ∙ c.if-is_finished.false, free, room, both.0, both.1))
