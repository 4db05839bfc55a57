use Rattle.std.proofs.Common.{◌≡◌, ◌∙◌, true, FitsSigned, sym, ap, rules}
use mir.Syntax.{w128}
use Rattle.og_linear.specs.Bounded.{fits_i128}
use Rattle.og_linear.proofs.Steps.{fits_true}
use Rattle.og_facts.proofs.Multiples.{next_sum}
use Rattle.og_facts.proofs.relations.own_next.Goals as goal

pub returns : goal.returns
returns c =
    let fits : FitsSigned w128 c.offset-range.result = search rules in
    let range : fits_i128 c.args.form.now.constant ≡ true = ap fits_i128 (sym c.offset-range.ensures) ∙ fits_true c.offset-range.result fits in
    rw (sym (next_sum c.args.form.now c.term-tidy.ensures.tidy range)) c.multiple.ensures
