use Rattle.std.proofs.Common.{Vec, Global, map, arith, sym, ap, ◌∙◌}
use Rattle.std.specs.Prelude.{Some, option_map}
use Rattle.std.proofs.lemmas.Result.{err_from_is_err_and}
use Rattle.og_linear.specs.declared.fault.FormFault.TheVariants as faults
use Rattle.og_typed.specs.declared.assertion.Assert.{Assert}
use Rattle.og_typed.specs.Plain.{formula}
use Rattle.og_typed.specs.Syntax.{And, Or}
use Rattle.og_typed.specs.Lists.{formula_list}
use Rattle.og_typed.proofs.Lists.{formula_and, formula_or}
use Rattle.og_subst.specs.Subst.{after, after_all}
use Rattle.og_subst.proofs.Mapping.{after_turn, after_stops, after_end, after_and, after_or, fails_from}
use Rattle.og_subst.proofs.substitution.+mapping.Goals as goal

pub all_mapped-returns-in_err-mapped : goal.all_mapped-returns-in_err-mapped
all_mapped-returns-in_err-mapped t c =
    let m = c.args.forms.now in
    let p = err_from_is_err_and c.from_residual.result c.from_residual.ensures.1 in
    rw p.1 (fails_from (λ (v : Vec Assert Global). formula_list (map formula v.items)) faults.TooLarge c.in_err-mapped.field-0.0 p.0 (after m (formula c.a-item.result)) (after_all m (formula_list (map formula c.args.all.now))) c.in_err-mapped.ensures p.2
    (λ none. after_stops m formula (map formula c.loop-a.out.items) c.args.all.now c.loop-a.a-index c.a-item.result _ c.loop-a-test.true c.a-item.is c.loop-a.invariant none))

pub all_mapped-loop-a-preserved : goal.all_mapped-loop-a-preserved
all_mapped-loop-a-preserved t c =
    after_turn c.args.forms.now formula formula c.loop-a.out.items c.push.new.self.items c.in_ok-mapped.field-0 c.args.all.now c.loop-a.a-index c.a-item.result
    c.loop-a-test.true c.a-item.is c.in_ok-push.ensures.items c.in_ok-mapped.ensures
    ∙ c.loop-a.invariant

pub all_mapped-returns : goal.all_mapped-returns
all_mapped-returns t c =
    after_end c.args.forms.now formula formula c.loop-a.out.items c.args.all.now c.loop-a.a-index _ (omega arith) c.loop-a.invariant

pub mapped-returns-in_err-all_mapped-in-And : goal.mapped-returns-in_err-all_mapped-in-And
mapped-returns-in_err-all_mapped-in-And t c =
    let m = c.args.forms.now in
    let p = err_from_is_err_and c.from_residual-in_err-all_mapped-in-And.result c.from_residual-in_err-all_mapped-in-And.ensures.1 in
    rw p.1 (fails_from formula faults.TooLarge c.in_err-all_mapped-in-And.field-0.0 p.0 (after_all m (formula_list (map formula c.deref-in-And.result.now))) (after m (formula c.args.a.now)) c.in_err-all_mapped-in-And.ensures p.2
    (λ none. after_and m c.args.a.now c.in-And.all c.deref-in-And.result.now c.in-And.is c.deref-in-And.ensures.value ∙ ap (option_map And) none))

pub mapped-returns-in_ok-all_mapped-in-And : goal.mapped-returns-in_ok-all_mapped-in-And
mapped-returns-in_ok-all_mapped-in-And t c =
    after_and c.args.forms.now c.args.a.now c.in-And.all c.deref-in-And.result.now c.in-And.is c.deref-in-And.ensures.value
    ∙ ap (option_map And) c.in_ok-all_mapped-in-And.ensures
    ∙ ap Some (sym (formula_and c.in_ok-all_mapped-in-And.field-0))

pub mapped-returns-in_err-all_mapped-in-Or : goal.mapped-returns-in_err-all_mapped-in-Or
mapped-returns-in_err-all_mapped-in-Or t c =
    let m = c.args.forms.now in
    let p = err_from_is_err_and c.from_residual-in_err-all_mapped-in-Or.result c.from_residual-in_err-all_mapped-in-Or.ensures.1 in
    rw p.1 (fails_from formula faults.TooLarge c.in_err-all_mapped-in-Or.field-0.0 p.0 (after_all m (formula_list (map formula c.deref-in-Or.result.now))) (after m (formula c.args.a.now)) c.in_err-all_mapped-in-Or.ensures p.2
    (λ none. after_or m c.args.a.now c.in-Or.all c.deref-in-Or.result.now c.in-Or.is c.deref-in-Or.ensures.value ∙ ap (option_map Or) none))

pub mapped-returns-in_ok-all_mapped-in-Or : goal.mapped-returns-in_ok-all_mapped-in-Or
mapped-returns-in_ok-all_mapped-in-Or t c =
    after_or c.args.forms.now c.args.a.now c.in-Or.all c.deref-in-Or.result.now c.in-Or.is c.deref-in-Or.ensures.value
    ∙ ap (option_map Or) c.in_ok-all_mapped-in-Or.ensures
    ∙ ap Some (sym (formula_or c.in_ok-all_mapped-in-Or.field-0))
