use Rattle.std.proofs.Common.{FitsSigned, rules, sym, ◌∙◌}
use mir.Syntax.{w128}
use Rattle.std.proofs.lemmas.Int.{to_z-of_z}
use Rattle.og_search_rows.proofs.Forms.{form_turn, form_end}
use Rattle.og_search_rows.proofs.inequality.Inequality.of_form.Goals as goal

pub returns-in_default : goal.returns-in_default
returns-in_default c = λ s.
    let fits : FitsSigned w128 c.offset-constant.result = search rules in
    form_end c.args.form.now s c.loop-i.i c.loop-i.terms.items _ (sym c.term.ensures.found ∙ c.in_default.is) (c.loop-i.invariant s)
    (to_z-of_z w128 c.offset-constant.result fits ∙ c.offset-constant.ensures)

pub loop-i-preserved : goal.loop-i-preserved
loop-i-preserved c = λ s.
    let fits : FitsSigned w128 c.in-Some.coefficient = search rules in
    form_turn c.args.form.now s c.loop-i.i c.in-Some.var c.in-Some.coefficient _ c.loop-i.terms.items c.push.new.self.items _ (sym c.term.ensures.found ∙ c.in-Some.is)
    c.in_ok-push.ensures.items (to_z-of_z w128 c.in-Some.coefficient fits) (c.loop-i.invariant s)
