use Rattle.std.proofs.Common.{◌≡◌, ◌<◌, sym, ap, ◌∙◌, subst, refl, ℕ, List}
use Rattle.og_run.specs.Runs.{Given}
use Rattle.og_run.specs.Histories.{process_count}
use Rattle.og_run.specs.declared.rule.Card.{Card}
use Rattle.og_run.specs.declared.rule.View.{View}
use Rattle.og_run.specs.Cards.{Place, Position, Acts, card_at, gives, card_in}
use Rattle.og_run.proofs.Acting.{token_is, listed_there, keeper_there, inside, fits_listed, lists_after, acts_by}
use Rattle.og_run.proofs.arena.Locked.act.Goals as goal

pub take_in-requires : goal.take_in-requires
take_in-requires g c =
    let t = token_is _ _ _ _ (sym c.take.ensures.value ∙ c.in-Some.is) c.seat.invariant.0 in
    let d = c.self.invariant in
    let mine = ap (λ (m : View × List (ℕ × Unit {0})). m.0) t.1 in record {
      table = (d.0 ∙ sym c.requires, t.0 ∙ sym c.requires, ap (λ z. z.words) c.requires ∙ d.1);
      keeper = ap (λ (v : View). v.keeps) d.3.1;
      token = (ap (λ (m : View × List (ℕ × Unit {0})). m.1) t.1, ap (λ (v : View). v.keeps) mine, ap (λ (v : View). v.holds) mine);
    }

pub hand_out-token-requires : goal.hand_out-token-requires
hand_out-token-requires g c =
    let t = token_is _ _ _ _ (sym c.take.ensures.value ∙ c.in-Some.is) c.seat.invariant.0 in
    let d = c.self.invariant in
    let mine = ap (λ (m : View × List (ℕ × Unit {0})). m.0) t.1 in
    let kept = c.take_in.ensures.kept in
    let after = ap (λ (m : View × List (ℕ × Unit {0})). m.0) kept.1 in
    let there = listed_there d.3.0 c.seat.inside.process c.self.inside.keeper.me.0 c.in-Some.token.me.0 d.3.1 mine c.take_in.ensures.card in
    let now = keeper_there d.3.0 c.seat.inside.process c.self.inside.keeper.me.0 c.in-Some.token.me.0 c.take_in.new.keeper.me.0 d.3.1 mine after in record {
      name = refl;
      table = (kept.0 ∙ (d.0 ∙ sym c.requires), ap (λ z. z.words) c.requires ∙ d.1);
      keeps = (ap (λ (v : View). v.keeps) after, ap (λ (v : View). v.holds) after);
      inside = inside d.3.0 c.seat.inside.process c.in-Some.token.me.0.card c.take_in.new.keeper.me.0 there now;
    }

pub invariant_of-self : goal.invariant_of-self
invariant_of-self g c =
    let t = token_is _ _ _ _ (sym c.take.ensures.value ∙ c.in-Some.is) c.seat.invariant.0 in
    let d = c.self.invariant in
    let mine = ap (λ (m : View × List (ℕ × Unit {0})). m.0) t.1 in
    let kept = c.take_in.ensures.kept in
    let after = ap (λ (m : View × List (ℕ × Unit {0})). m.0) kept.1 in
    let at : Position = record { given = g.B.Machine.given c.self.inside.machine; history = g.B.Machine.history c.self.inside.machine; halted = g.B.Machine.halted c.self.inside.machine } in
    let to : Position = record { given = g.B.Machine.given c.take_turn-turn.new.self; history = g.B.Machine.history c.take_turn-turn.new.self; halted = g.B.Machine.halted c.take_turn-turn.new.self } in
    let there = listed_there d.3.0 c.seat.inside.process c.self.inside.keeper.me.0 c.in-Some.token.me.0 d.3.1 mine c.take_in.ensures.card in
    let now = keeper_there d.3.0 c.seat.inside.process c.self.inside.keeper.me.0 c.in-Some.token.me.0 c.take_in.new.keeper.me.0 d.3.1 mine after in
    let out = c.hand_out-token.ensures.kept in
    let out_is = ap (λ (m : View × List (ℕ × Unit {0})). m.0) out.1 ∙ ap (gives c.seat.inside.process (card_at to)) now in
    let s = c.take_turn-turn.ensures in (
      out.0 ∙ (kept.0 ∙ d.0),
      d.1,
      ap (λ (m : View × List (ℕ × Unit {0})). m.1) out.1 ∙ (ap (λ (m : View × List (ℕ × Unit {0})). m.1) kept.1 ∙ d.2),
      lists_after at to c.take_turn-turn.result c.seat.inside.process c.in-Some.token.me.0.card d.3.0 c.hand_out-token.new.keeper.me.0 s.given s.turn s.history s.halted there d.3.2 out_is,
    )

pub returns-clause-act : goal.returns-clause-act
returns-clause-act g c =
    let open_is = sym c.take.ensures.value ∙ c.in-Some.is in
    let t = token_is _ _ _ _ open_is c.seat.invariant.0 in
    let d = c.self.invariant in
    let mine = ap (λ (m : View × List (ℕ × Unit {0})). m.0) t.1 in
    let at : Position = record { given = g.B.Machine.given c.self.inside.machine; history = g.B.Machine.history c.self.inside.machine; halted = g.B.Machine.halted c.self.inside.machine } in
    let there = listed_there d.3.0 c.seat.inside.process c.self.inside.keeper.me.0 c.in-Some.token.me.0 d.3.1 mine c.take_in.ensures.card in
    let fits = (fits_listed at d.3.0 c.seat.inside.process c.in-Some.token.me.0.card d.3.2 there).1 in
    let s = c.take_turn-turn.ensures in
    let given = ap (λ (m : View × List (ℕ × Unit {0})). m.0.card) c.hand_out-token.ensures.given.1 in
    let was : c.in-Some.token.me.0.card ≡ c.args.seat.now.card = sym (ap card_in open_is) ∙ ap (λ (z : Place). z.card) c.seat.view_is in
    let p_was = ap (λ (z : Place). z.process) c.seat.view_is in
    let acts = acts_by c.seat.inside.process c.in-Some.token.me.0.card at.given at.history at.halted c.take_turn-turn.result c.hand_out-token.result.me.0.card fits s.turn (ap (λ (k : Card). k.given) given ∙ s.given) (ap (λ (k : Card). k.heard) given ∙ s.history) (ap (λ (k : Card). k.halted) given ∙ s.halted) s.overflow in
    subst (λ (q : ℕ). Acts q c.args.seat.now.card c.take_turn-turn.result c.hand_out-token.result.me.0.card) p_was (subst (λ (k : Card). Acts c.seat.inside.process k c.take_turn-turn.result c.hand_out-token.result.me.0.card) was acts)

pub moves-seat-inside-requires : goal.moves-seat-inside-requires
moves-seat-inside-requires g c =
    let t = token_is _ _ _ _ (sym c.take.ensures.value ∙ c.in-Some.is) c.seat.invariant.0 in
    let d = c.self.invariant in
    let mine = ap (λ (m : View × List (ℕ × Unit {0})). m.0) t.1 in
    let at : Position = record { given = g.B.Machine.given c.self.inside.machine; history = g.B.Machine.history c.self.inside.machine; halted = g.B.Machine.halted c.self.inside.machine } in
    let there = listed_there d.3.0 c.seat.inside.process c.self.inside.keeper.me.0 c.in-Some.token.me.0 d.3.1 mine c.take_in.ensures.card in
    subst (λ (z : Given). c.seat.inside.process < process_count z.outline) (sym c.take_turn-turn.ensures.given) ((fits_listed at d.3.0 c.seat.inside.process c.in-Some.token.me.0.card d.3.2 there).0)
