use Rattle.std.proofs.Common.{arith, rules, FitsSigned, sym, ◌∙◌}
use mir.Syntax.{w128}
use Rattle.og_cert_text.proofs.Forms.{form_fails, form_done, more_fit, place_small}
use Rattle.og_cert_text.proofs.limits.is_form.Goals as goal

pub returns-then-v-gt-NUMBER_LIMIT : goal.returns-then-v-gt-NUMBER_LIMIT
returns-then-v-gt-NUMBER_LIMIT c = sym (form_fails c.args.form.now c.loop-v.i c.in-Some.v c.in-Some.field-0-1 (sym c.in-Some.ensures.found) c.if-v-gt-NUMBER_LIMIT.true)

pub overflow_add-i : goal.overflow_add-i
overflow_add-i c =
    let p = place_small c.args.form.now c.loop-v.i c.in-Some.v c.in-Some.field-0-1 (sym c.in-Some.ensures.found) c.term.ensures.tidy in
    omega (arith, p.0, p.1)

pub loop-v-smaller : goal.loop-v-smaller
loop-v-smaller c =
    let p = place_small c.args.form.now c.loop-v.i c.in-Some.v c.in-Some.field-0-1 (sym c.in-Some.ensures.found) c.term.ensures.tidy in
    omega (arith, p.0, p.1)

pub loop-v-preserved : goal.loop-v-preserved
loop-v-preserved c =
    let range : FitsSigned w128 c.in-Some.field-0-1 = search rules in
    let p = place_small c.args.form.now c.loop-v.i c.in-Some.v c.in-Some.field-0-1 (sym c.in-Some.ensures.found) c.term.ensures.tidy in
    let m = more_fit c.args.form.now c.loop-v.i c.in-Some.v c.in-Some.field-0-1 (sym c.in-Some.ensures.found) range c.if-v-gt-NUMBER_LIMIT.false c.loop-v.invariant.fits c.loop-v.invariant.small in
    record { fits = m.0; small = m.1; within = omega (arith, p.0) }

pub returns : goal.returns
returns c =
    let range : FitsSigned w128 c.offset-constant.result = search rules in
    sym (form_done c.args.form.now c.loop-v.i (sym c.term.ensures.found ∙ c.in_default.is) c.term.ensures.tidy (rw c.offset-constant.ensures at range) c.loop-v.invariant.fits c.loop-v.invariant.small)
