use Rattle.std.proofs.Common.{◌≡◌, true, false, ap, ◌∙◌, subst, arith, ℕ, List, Some}
use Rattle.std.specs.Prelude.{slice_get, slice_set}
use Rattle.og_run.specs.declared.rule.View.{View}
use Rattle.og_run.specs.Cards.{listed, keeper}
use Rattle.og_run.proofs.Steps.{takes_keep, confirms_keep}
use Rattle.og_run.proofs.arena.take_in.Goals as goal

pub join_seat-requires : goal.join_seat-requires
join_seat-requires c =
    let t = c.requires.table in
    (t.0, t.1, c.requires.token.0, omega (arith, t.2), takes_keep _ _ _ _ _ c.requires.keeper c.requires.token.1)

pub load-requires : goal.load-requires
load-requires c =
    let t = c.requires.table in
    let j = c.join_seat.ensures in
    let me = ap (λ (m : View × List (ℕ × Unit {0})). m.0) j.2 in
    (j.0 ∙ t.0, omega (arith, t.2), confirms_keep _ _ _ _ (ap (λ (v : View). v.keeps) me ∙ c.requires.keeper) (ap (λ (v : View). v.holds) me ∙ c.requires.token.2))

pub returns-clause-card : goal.returns-clause-card
returns-clause-card c =
    let me = ap (λ (m : View × List (ℕ × Unit {0})). m.0) c.join_seat.ensures.2 in
    subst (λ (v : View). slice_get v.cards v.process ≡ Some (listed v.card true)) me c.load.ensures.2.0

pub returns-clause-kept : goal.returns-clause-kept
returns-clause-kept c =
    let j = c.join_seat.ensures in
    let l = c.load.ensures in
    (l.0 ∙ j.0, l.2.1 ∙ ap (λ (m : View × List (ℕ × Unit {0})). (keeper (slice_set m.0.cards m.0.process (listed m.0.card false)), m.1)) j.2)
