use Rattle.std.proofs.Common.{◌≡◌, ◌-◌, length, Some, slice_get, sym, subst, ap, ◌∙◌}
use Rattle.std.specs.Prelude.{nat_lt}
use Rattle.std.specs.List.{list_all}
use Rattle.og_linear.specs.Tidy.{IsTidy}
use Rattle.og_linear.proofs.Pushed.{last_decides}
use Rattle.og_linear.proofs.form.Form.is_last.Goals as goal

pub returns-in-Some : goal.returns-in-Some
returns-in-Some c =
    let terms = c.deref.result.now in
    let at : slice_get terms (length terms - 1) ≡ Some c.in-Some.t.now = sym c.in-Some.ensures.value in
    last_decides terms c.args.var c.in-Some.t.now (subst IsTidy (sym c.deref.ensures.value) c.self.invariant.0) at
    ∙ ap (λ ts. list_all (λ t. nat_lt t.0 c.args.var) ts) (c.deref.ensures.value ∙ ap (λ f. f.terms) c.self.view_is)
