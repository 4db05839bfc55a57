use Rattle.std.proofs.Common.{◌≡◌, ◌<◌, ◌^◌, ◌++◌, Some, true, rules, arith, sym, ◌∙◌}
use Rattle.std.specs.Prelude.{slice_get}
use Rattle.std.proofs.lemmas.Option.{slice_get_within}
use Rattle.og_report_text.specs.Listing.{terms_text}
use Rattle.og_report_text.proofs.Terms.{number_of_term, no_terms_left, more_terms}
use Rattle.og_report_text.proofs.forms.put_terms.Goals as goal

pub overflow_add-i : goal.overflow_add-i
overflow_add-i c =
    let found : slice_get c.args.form.now.terms c.loop-var.i ≡ Some (c.in-Some.var, c.in-Some.coefficient) = sym c.term.ensures.found ∙ c.in-Some.is in
    let small : c.in-Some.var < 2 ^ 32 = search rules in
    let least = number_of_term c.args.form.now.terms c.loop-var.i (c.in-Some.var, c.in-Some.coefficient) c.term.ensures.tidy found in
    search rules

pub loop-var-smaller : goal.loop-var-smaller
loop-var-smaller c =
    let found : slice_get c.args.form.now.terms c.loop-var.i ≡ Some (c.in-Some.var, c.in-Some.coefficient) = sym c.term.ensures.found ∙ c.in-Some.is in
    let within = slice_get_within c.args.form.now.terms c.loop-var.i (c.in-Some.var, c.in-Some.coefficient) found in
    omega (arith, within)

pub loop-var-preserved : goal.loop-var-preserved
loop-var-preserved c =
    let found : slice_get c.args.form.now.terms c.loop-var.i ≡ Some (c.in-Some.var, c.in-Some.coefficient) = sym c.term.ensures.found ∙ c.in-Some.is in
    let within = slice_get_within c.args.form.now.terms c.loop-var.i (c.in-Some.var, c.in-Some.coefficient) found in
    record {
      inside = omega (arith, within);
      made = more_terms c.args.names.now c.loop-var.text.items c.put_sign.new.text.items c.put_times.new.text.items (c.args.text.now.items ++ terms_text c.args.names.now true c.args.form.now.terms) c.args.form.now.terms c.loop-var.i c.unsigned_abs.result c.loop-var.first (c.in-Some.var, c.in-Some.coefficient) found
          (search rules) c.in_ok-put_times.ensures (search rules) c.loop-var.invariant.made;
    }

pub returns : goal.returns
returns c =
    no_terms_left c.args.names.now c.loop-var.text.items c.args.form.now.terms c.loop-var.i c.loop-var.first (sym c.term.ensures.found ∙ c.in_default.is) ∙ c.loop-var.invariant.made
