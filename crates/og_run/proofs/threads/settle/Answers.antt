use Rattle.std.proofs.Common.{◌≡◌, [], ◌∷◌, sym, ◌∙◌, subst, refl, append-nil, arith}
use Rattle.og_run.specs.Cards.{Position, CardFits}
use Rattle.og_run.proofs.Ending.{popped, fits_more, none_past}
use Rattle.og_run.proofs.threads.settle.Goals as goal

pub loop-seat-init : goal.loop-seat-init
loop-seat-init g c = record {
  same = refl;
  front = ([], sym (append-nil c.args.seats.items));
  fits = λ k s far at. absurd (none_past c.args.seats.items k s far at);
}

pub loop-seat-preserved : goal.loop-seat-preserved
loop-seat-preserved g c =
    let i = c.loop-seat.invariant in
    let items = c.in-Some.ensures.items in
    let same = sym c.take.ensures.same in
    let was = c.loop-seat.locked in
    let fit = fits_more (λ s. CardFits was.given was.history was.halted s.process s.card) c.args.seats.items c.loop-seat.seats.items c.pop.new.self.items i.front.0 c.in-Some.seat i.front.1 items c.take.ensures.fits i.fits in record {
      same = c.take.ensures.same ∙ i.same;
      front = (c.in-Some.seat ∷ i.front.0, popped c.args.seats.items c.loop-seat.seats.items c.pop.new.self.items i.front.0 c.in-Some.seat i.front.1 items);
      fits = λ k s far at. subst (λ (d : Position). CardFits d.given d.history d.halted s.process s.card) same (fit k s far at);
    }

pub returns : goal.returns
returns g c = λ k s at.
    let none = c.in_default.ensures.cases in
    let machine = c.into_machine.ensures in
    let fits = c.loop-seat.invariant.fits k s (omega (arith, none.0, c.loop-seat.seats.ok.0)) at in
    let there : Position = record { given = g.B.Machine.given c.into_machine.result; history = g.B.Machine.history c.into_machine.result; halted = g.B.Machine.halted c.into_machine.result } in
    let same : there ≡ c.loop-seat.locked = (λ j. record { given = machine.0 j; history = machine.1 j; halted = machine.2 j }) in
    subst (λ (d : Position). CardFits d.given d.history d.halted s.process s.card) (sym same) fits
