use Rattle.std.proofs.Common.{◌≡◌, ◌<◌, ◌^◌, Some, None, FitsSigned, rules, arith, sym, ap, ◌∙◌}
use Rattle.std.specs.Prelude.{slice_get}
use Rattle.std.proofs.lemmas.Option.{slice_get_within, gets}
use Rattle.std.proofs.lemmas.Int.{to_z-of_z}
use mir.Syntax.{w128}
use Rattle.og_subst.proofs.Equal.{number_of_term, same_turn, same_end, same_form}
use Rattle.og_subst.proofs.equality.same_forms.Goals as goal

pub overflow_add-i : goal.overflow_add-i
overflow_add-i c =
    let found : slice_get c.args.a.now.terms c.loop-term.i ≡ Some c.in-Some.term = sym c.term.ensures.found ∙ c.in-Some.is in
    let small : c.in-Some.term.0 < 2 ^ 32 = search rules in
    let least = number_of_term c.args.a.now.terms c.loop-term.i c.in-Some.term c.term.ensures.tidy found in
    search rules

pub loop-term-smaller : goal.loop-term-smaller
loop-term-smaller c =
    let found : slice_get c.args.a.now.terms c.loop-term.i ≡ Some c.in-Some.term = sym c.term.ensures.found ∙ c.in-Some.is in
    let within = slice_get_within c.args.a.now.terms c.loop-term.i c.in-Some.term found in
    omega (arith, within)

pub loop-term-preserved : goal.loop-term-preserved
loop-term-preserved c =
    let found : slice_get c.args.a.now.terms c.loop-term.i ≡ Some c.in-Some.term = sym c.term.ensures.found ∙ c.in-Some.is in
    let other : slice_get c.args.b.now.terms c.loop-term.i ≡ Some c.in-Some-term.other = sym c.term-in-Some.ensures.found ∙ c.in-Some-term.is in
    let within = slice_get_within c.args.a.now.terms c.loop-term.i c.in-Some.term found in
    record {
      inside = omega (arith, within);
      same = same_turn c.args.a.now.terms c.args.b.now.terms c.loop-term.i c.in-Some.term c.in-Some-term.other found other (c.same_terms.ensures.0 c.if-same_terms.true) c.loop-term.invariant.same;
    }

pub returns-then-is_none : goal.returns-then-is_none
returns-then-is_none c =
    let a = c.args.a.now in
    let b = c.args.b.now in
    let fits_a : FitsSigned w128 c.offset.result = search rules in
    let fits_b : FitsSigned w128 c.offset-then-is_none.result = search rules in
    let is_a = to_z-of_z w128 c.offset.result fits_a ∙ c.offset.ensures in
    let is_b = to_z-of_z w128 c.offset-then-is_none.result fits_b ∙ c.offset-then-is_none.ensures in
    let end_a : slice_get a.terms c.loop-term.i ≡ None = sym c.term.ensures.found ∙ c.in_default.is in
    let end_b : slice_get b.terms c.loop-term.i ≡ None = grind (arith, gets) in
    let terms = same_end a b c.loop-term.i end_a end_b c.loop-term.invariant.same in
    (λ e. same_form a b terms (sym is_a ∙ c.same_numbers.ensures.0 e ∙ is_b), λ e. c.same_numbers.ensures.1 (is_a ∙ ap (λ f. f.constant) e ∙ sym is_b))
