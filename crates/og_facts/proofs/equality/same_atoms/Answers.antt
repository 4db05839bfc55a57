use Rattle.std.proofs.Common.{◌≡◌, ◌<◌, ◌^◌, Some, rules, arith, refl, sym, ap, ◌∙◌}
use Rattle.std.specs.Prelude.{slice_get}
use Rattle.std.proofs.lemmas.Bool.{false≢true}
use Rattle.std.proofs.lemmas.Option.{slice_get_within}
use Rattle.og_linear.specs.Linear.{FormValue}
use Rattle.og_subst.proofs.Equal.{number_of_term, same_turn}
use Rattle.og_facts.proofs.equality.same_atoms.Goals as goal

pub returns-then-not-has_term : goal.returns-then-not-has_term
returns-then-not-has_term c =
    let found : slice_get c.args.a.now.terms c.loop-term.i ≡ Some c.in-Some.term = sym c.term.ensures.found ∙ c.in-Some.is in (
      λ e. absurd (false≢true e),
      λ e. sym c.if-not-has_term.true ∙ c.has_term.ensures.1 (ap (λ (f : FormValue). slice_get f.terms c.loop-term.i) (sym e) ∙ found),
    )

pub overflow_add-i : goal.overflow_add-i
overflow_add-i c =
    let found : slice_get c.args.a.now.terms c.loop-term.i ≡ Some c.in-Some.term = sym c.term.ensures.found ∙ c.in-Some.is in
    let small : c.in-Some.term.0 < 2 ^ 32 = search rules in
    let least = number_of_term c.args.a.now.terms c.loop-term.i c.in-Some.term c.term.ensures.tidy found in
    search rules

pub loop-term-smaller : goal.loop-term-smaller
loop-term-smaller c =
    let found : slice_get c.args.a.now.terms c.loop-term.i ≡ Some c.in-Some.term = sym c.term.ensures.found ∙ c.in-Some.is in
    let within = slice_get_within c.args.a.now.terms c.loop-term.i c.in-Some.term found in
    omega (arith, within)

pub loop-term-preserved : goal.loop-term-preserved
loop-term-preserved c =
    let found : slice_get c.args.a.now.terms c.loop-term.i ≡ Some c.in-Some.term = sym c.term.ensures.found ∙ c.in-Some.is in
    let other : slice_get c.args.b.now.terms c.loop-term.i ≡ Some c.in-Some.term = c.has_term.ensures.0 c.if-not-has_term.false in
    let within = slice_get_within c.args.a.now.terms c.loop-term.i c.in-Some.term found in
    record {
      inside = omega (arith, within);
      same = same_turn c.args.a.now.terms c.args.b.now.terms c.loop-term.i c.in-Some.term c.in-Some.term found other refl c.loop-term.invariant.same;
    }
