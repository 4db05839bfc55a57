use Rattle.std.proofs.Common.{map, sym, subst, arith}
use Rattle.og_explore.specs.From.{IsReachedFrom}
use Rattle.og_explore.specs.Safety.{IsSafety}
use Rattle.og_command_prove.proofs.searching.moments_of.Goals as goal

pub returns : goal.returns
returns c =
    let reach = c.in_ok-reach.ensures in
    let paid = reach.paid in
    let tried = reach.tried in
    record {
      outline = reach.outline;
      all = λ yes m from. reach.all yes m (subst (λ ls. IsReachedFrom c.args.outline.now (map (λ l. l.items) ls) m) (sym c.deref.ensures.value) from);
      few = omega (arith, paid, tried);
      safety = subst (λ ls. IsSafety c.args.outline.now (map (λ l. l.items) ls) c.in_ok-reach.reach.safety) c.deref.ensures.value reach.safety;
    }
