use Rattle.std.proofs.Common.{◌&&◌, pos, FitsSigned, rules, sym, ap, ◌∙◌}
use Rattle.std.specs.Prelude.{int_lt}
use Rattle.std.proofs.lemmas.Int.{to_z-of_z}
use mir.Syntax.{w128}
use Rattle.og_cert.proofs.Terms.{some_term, no_term}
use Rattle.og_cert.proofs.checks.is_positive.Goals as goal

pub returns-in-Some : goal.returns-in-Some
returns-in-Some c =
    let f = c.args.form.now in
    ap (λ b. b && int_lt (pos 0) f.constant) (sym (some_term f.terms _ (sym c.term.ensures.found ∙ c.in-Some.is)))

pub returns-in-None : goal.returns-in-None
returns-in-None c =
    let f = c.args.form.now in
    let fits : FitsSigned w128 c.offset.result = search rules in
    ap (λ z. int_lt (pos 0) z) (to_z-of_z w128 c.offset.result fits ∙ c.offset.ensures)
    ∙ ap (λ b. b && int_lt (pos 0) f.constant) (sym (no_term f.terms (sym c.term.ensures.found ∙ c.in-None.is)))
