use Rattle.std.proofs.Common.{◌≡◌, ◌≢◌, to_z, of_z, ap, ◌<◌, ◌≤◌, ◌^◌, Some, rules, arith, sym, ◌∙◌, FitsSigned}
use mir.Syntax.{w128}
use Rattle.std.specs.Prelude.{slice_get}
use Rattle.std.proofs.lemmas.Option.{slice_get_within}
use Rattle.std.proofs.lemmas.Int.{to_z-of_z}
use Rattle.og_linear.proofs.Steps.{fits_true}
use Rattle.og_facts.proofs.Atoms.{place_of_term, negation_turn, negation_stops, negation_end, least}
use Rattle.og_facts.proofs.atom.has_negation.Goals as goal

pub returns-then-coefficient : goal.returns-then-coefficient
returns-then-coefficient c =
    let f = c.args.form.now in
    let found : slice_get f.terms c.loop-coefficient.index ≡ Some (c.in-Some.field-0-0, c.in-Some.coefficient) = sym c.term.ensures.found ∙ c.in-Some.is in
    let range : FitsSigned w128 c.in-Some.coefficient = search rules in
    let is : c.in-Some.coefficient ≡ least = sym (to_z-of_z w128 c.in-Some.coefficient range) ∙ ap (to_z w128) c.if-coefficient.true in
    sym (negation_stops f.terms c.loop-coefficient.index (c.in-Some.field-0-0, c.in-Some.coefficient) found is) ∙ c.loop-coefficient.invariant.same

pub overflow_add-index : goal.overflow_add-index
overflow_add-index c =
    let f = c.args.form.now in
    let found : slice_get f.terms c.loop-coefficient.index ≡ Some (c.in-Some.field-0-0, c.in-Some.coefficient) = sym c.term.ensures.found ∙ c.in-Some.is in
    let small : c.in-Some.field-0-0 < 2 ^ 32 = search rules in
    let least : c.loop-coefficient.index ≤ c.in-Some.field-0-0 = place_of_term f.terms c.loop-coefficient.index (c.in-Some.field-0-0, c.in-Some.coefficient) c.term.ensures.tidy found in
    search rules

pub loop-coefficient-smaller : goal.loop-coefficient-smaller
loop-coefficient-smaller c =
    let f = c.args.form.now in
    let found : slice_get f.terms c.loop-coefficient.index ≡ Some (c.in-Some.field-0-0, c.in-Some.coefficient) = sym c.term.ensures.found ∙ c.in-Some.is in
    let within = slice_get_within f.terms c.loop-coefficient.index _ found in
    omega (arith, within)

pub loop-coefficient-preserved : goal.loop-coefficient-preserved
loop-coefficient-preserved c =
    let f = c.args.form.now in
    let found : slice_get f.terms c.loop-coefficient.index ≡ Some (c.in-Some.field-0-0, c.in-Some.coefficient) = sym c.term.ensures.found ∙ c.in-Some.is in
    let within = slice_get_within f.terms c.loop-coefficient.index _ found in
    let range : FitsSigned w128 c.in-Some.coefficient = search rules in
    let other : c.in-Some.coefficient ≢ least = λ e. c.if-coefficient.false (ap (of_z w128) e) in
    record {
      inside = omega (arith, within);
      same = negation_turn f.terms c.loop-coefficient.index (c.in-Some.field-0-0, c.in-Some.coefficient) found (fits_true c.in-Some.coefficient range) other ∙ c.loop-coefficient.invariant.same;
    }

pub returns : goal.returns
returns c =
    let f = c.args.form.now in
    sym (negation_end f.terms c.loop-coefficient.index (sym c.term.ensures.found ∙ c.in_default.is)) ∙ c.loop-coefficient.invariant.same
