use Rattle.std.proofs.Common.{◌≡◌, ◌<◌, ◌≤◌, ◌^◌, Some, None, ap, rules, arith, sym, ◌∙◌, ◌&&◌, ◌||◌, ◌+◌, drop}
use Rattle.std.specs.Prelude.{slice_get, nat_lt}
use Rattle.og_linear.specs.Linear.{is_term}
use Rattle.std.proofs.lemmas.Option.{slice_get_within}
use Rattle.og_subst.proofs.Equal.{number_of_term}
use Rattle.og_cond.specs.Sets.{has}
use Rattle.og_cond.proofs.SetTerms.{term_turn, term_end}
use Rattle.og_cond.proofs.sets.add_form.Goals as goal

pub overflow_add-index : goal.overflow_add-index
overflow_add-index c =
    let f = c.args.form.now in
    let found : slice_get f.terms c.loop-var.index ≡ Some (c.in-Some.var, c.in-Some.field-0-1) = sym c.term.ensures.found ∙ c.in-Some.is in
    let small : c.in-Some.var < 2 ^ 32 = search rules in
    let least : c.loop-var.index ≤ c.in-Some.var = number_of_term f.terms c.loop-var.index (c.in-Some.var, c.in-Some.field-0-1) c.term.ensures.tidy found in
    search rules

pub loop-var-smaller : goal.loop-var-smaller
loop-var-smaller c =
    let f = c.args.form.now in
    let found : slice_get f.terms c.loop-var.index ≡ Some (c.in-Some.var, c.in-Some.field-0-1) = sym c.term.ensures.found ∙ c.in-Some.is in
    let within = slice_get_within f.terms c.loop-var.index _ found in
    omega (arith, within)

pub loop-var-preserved : goal.loop-var-preserved
loop-var-preserved c =
    let f = c.args.form.now in
    let found : slice_get f.terms c.loop-var.index ≡ Some (c.in-Some.var, c.in-Some.field-0-1) = sym c.term.ensures.found ∙ c.in-Some.is in
    let within = slice_get_within f.terms c.loop-var.index _ found in
    record {
      inside = omega (arith, within);
      same = λ x.
          ap (λ b. nat_lt x 256 && is_term x (drop (c.loop-var.index + 1) f.terms) || b) (c.insert.ensures x)
          ∙ term_turn f.terms c.loop-var.index x (c.in-Some.var, c.in-Some.field-0-1) (has c.loop-var.set x) found
          ∙ c.loop-var.invariant.same x;
    }

pub returns : goal.returns
returns c = λ x.
    let none : slice_get c.args.form.now.terms c.loop-var.index ≡ None = sym c.term.ensures.found ∙ c.in_default.is in
    sym (term_end c.args.form.now.terms c.loop-var.index x (has c.loop-var.set x) none) ∙ c.loop-var.invariant.same x
