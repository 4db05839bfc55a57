use Rattle.std.proofs.Common.{◌≡◌, ◌∙◌, ◌≤◌, true, refl, ℕ, length, ap, subst, sym}
use Rattle.std.specs.Prelude.{not, find}
use Rattle.std.specs.List.{list_all}
use Rattle.std.proofs.lemmas.Result.{err_from_is_err_and}
use Rattle.og_typed.specs.Syntax.{Program}
use Rattle.og_cond.specs.Conditions.{conditions}
use Rattle.og_cond.specs.Limits.{condition_limit}
use Rattle.og_report_conditions.specs.Chosen.{is_number, IsNoCondition}
use Rattle.og_report_conditions.proofs.Loops.{none_other}
use Rattle.og_report_conditions.proofs.Refusing.{too_many}
use Rattle.og_report_conditions.proofs.choosing.of_numbers.Goals as goal

pub returns-in_err-count-clause-refused : goal.returns-in_err-count-clause-refused
returns-in_err-count-clause-refused c =
    let p = err_from_is_err_and c.from_residual.result c.from_residual.ensures.1 in
    rw p.1 (too_many c.args.source.outline c.outline.result.now c.in_err-count.field-0.0 p.0 c.outline.ensures.same c.in_err-count.ensures p.2)

pub returns-clause-reply : goal.returns-clause-reply
returns-clause-reply c =
    let numbers = c.args.numbers.items in
    let count = subst (λ (q : Program). c.in_ok-count.count ≡ length (conditions q)) c.outline.ensures.same c.in_ok-count.ensures.0 in
    let within = subst (λ (q : Program). length (conditions q) ≤ condition_limit) c.outline.ensures.same c.in_ok-count.ensures.1 in
    let none = ap (find (λ m. not (is_number c.in_ok-count.count m))) (sym c.deref.ensures.value) ∙ sym c.in-None.ensures in
    let each = none_other (is_number c.in_ok-count.count) numbers none in
    (subst (λ (k : ℕ). list_all (is_number k) numbers ≡ true) count each, (c.in_ok-of-in-None.ensures, within))

pub returns-in-Some-clause-reply : goal.returns-in-Some-clause-reply
returns-in-Some-clause-reply c =
    let numbers = c.args.numbers.items in
    let count = subst (λ (q : Program). c.in_ok-count.count ≡ length (conditions q)) c.outline.ensures.same c.in_ok-count.ensures.0 in
    let within = subst (λ (q : Program). length (conditions q) ≤ condition_limit) c.outline.ensures.same c.in_ok-count.ensures.1 in
    let found = ap (find (λ m. not (is_number c.in_ok-count.count m))) (sym c.deref.ensures.value) ∙ sym c.in-Some.ensures in
    let line = c.in_ok-no_condition-in-Some.field-0.items in
    let at : IsNoCondition numbers c.in_ok-count.count line = (c.in-Some.number, found, c.in_ok-no_condition-in-Some.ensures) in
    (refl, subst (λ (k : ℕ). IsNoCondition numbers k line) count at, within)
