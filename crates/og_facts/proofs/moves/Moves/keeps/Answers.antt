use Rattle.std.proofs.Common.{◌≡◌, ◌<◌, ◌≤◌, ◌^◌, Some, rules, arith, sym, ◌∙◌}
use Rattle.std.specs.Prelude.{slice_get}
use Rattle.std.proofs.lemmas.Option.{slice_get_within}
use Rattle.og_linear.proofs.Kept.{kept}
use Rattle.og_facts.proofs.Atoms.{place_of_term}
use Rattle.og_facts.proofs.Moving.{named_turn, named_end}
use Rattle.og_facts.proofs.moves.Moves.keeps.Goals as goal

pub overflow_add-index : goal.overflow_add-index
overflow_add-index c =
    let f = c.args.form.now in
    let found : slice_get f.terms c.loop-var.index ≡ Some (c.in-Some.var, c.in-Some.field-0-1) = sym c.term.ensures.found ∙ c.in-Some.is in
    let small : c.in-Some.var < 2 ^ 32 = search rules in
    let least : c.loop-var.index ≤ c.in-Some.var = place_of_term f.terms c.loop-var.index (c.in-Some.var, c.in-Some.field-0-1) c.term.ensures.tidy found in
    search rules

pub loop-var-smaller : goal.loop-var-smaller
loop-var-smaller c =
    let f = c.args.form.now in
    let found : slice_get f.terms c.loop-var.index ≡ Some (c.in-Some.var, c.in-Some.field-0-1) = sym c.term.ensures.found ∙ c.in-Some.is in
    let within = slice_get_within f.terms c.loop-var.index _ found in
    omega (arith, within)

pub loop-var-preserved : goal.loop-var-preserved
loop-var-preserved c =
    let f = c.args.form.now in
    let found : slice_get f.terms c.loop-var.index ≡ Some (c.in-Some.var, c.in-Some.field-0-1) = sym c.term.ensures.found ∙ c.in-Some.is in
    let within = slice_get_within f.terms c.loop-var.index _ found in
    record {
      inside = omega (arith, within);
      same = named_turn c.args.self.now f.terms c.loop-var.index (c.in-Some.var, c.in-Some.field-0-1) found (c.assigns.ensures c.if-assigns.false) ∙ c.loop-var.invariant.same;
    }

pub returns : goal.returns
returns c =
    let f = c.args.form.now in
    λ yes. kept c.args.self.now f c.numbers_fit.ensures.tidy c.numbers_fit.ensures.fits
    (sym c.loop-var.invariant.same ∙ named_end c.args.self.now f.terms c.loop-var.index (sym c.term.ensures.found ∙ c.in_default.is))
