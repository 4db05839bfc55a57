use Rattle.std.proofs.Common.{◌+◌, ◌*◌, ◌≤◌, ◌^◌, ◌∙◌, ℤ, FitsSigned, rules, sym, subst, arith}
use mir.Syntax.{w128}
use Rattle.std.specs.Prelude.{nat_abs}
use Rattle.std.proofs.lemmas.Int.{to_z-of_z}
use Rattle.og_typed.specs.Bounds.{IsWithin}
use Rattle.og_typed.specs.Scoped.{scope_of, use_of}
use Rattle.og_typed.proofs.SumSteps.{term_added}
use Rattle.og_typed.proofs.Within.{within_fits, within_scaled, term_within, on_ok}
use Rattle.og_typed.proofs.sums.add_term.Goals as goal

pub add-requires-clause-total : goal.add-requires-clause-total
add-requires-clause-total c =
    let range : FitsSigned w128 c.signed.result = search rules in
    let small = subst (λ (k : ℤ). nat_abs k ≤ 2 ^ 64) (sym (to_z-of_z w128 c.signed.result range)) c.signed.ensures.small in
    within_fits (2 ^ 124 + 2 ^ 64) _ (omega arith) (term_within _ (2 ^ 124) c.args.sum.now c.in_ok-number.base small c.requires c.in_ok-number.ensures.small)

pub returns-clause-small : goal.returns-clause-small
returns-clause-small c = λ bound w.
    let range : FitsSigned w128 c.signed.result = search rules in
    let small = subst (λ (k : ℤ). nat_abs k ≤ 2 ^ 64) (sym (to_z-of_z w128 c.signed.result range)) c.signed.ensures.small in
    on_ok c.add.result _ (IsWithin (bound + 2 ^ 64) c.add.new.sum) c.add.ensures.ok
    (λ same. subst (IsWithin (bound + 2 ^ 64)) (sym same) (term_within _ bound c.args.sum.now c.in_ok-number.base small w c.in_ok-number.ensures.small))

pub add-requires-clause-product : goal.add-requires-clause-product
add-requires-clause-product c =
    let range : FitsSigned w128 c.signed.result = search rules in
    let small = subst (λ (k : ℤ). nat_abs k ≤ 2 ^ 64) (sym (to_z-of_z w128 c.signed.result range)) c.signed.ensures.small in
    within_fits (2 ^ 64 * 1) _ (omega arith) (within_scaled _ (2 ^ 64) 1 c.in_ok-number.base small c.in_ok-number.ensures.small)

pub returns-clause-answer : goal.returns-clause-answer
returns-clause-answer c =
    let range : FitsSigned w128 c.signed.result = search rules in
    term_added (scope_of c.args.scope.now) (use_of c.args.usage) c.args.sum.now c.add.new.sum c.args.term.now c.add.result (c.in_ok-number.number, c.in_ok-number.base) _ (to_z-of_z w128 c.signed.result range ∙ c.signed.ensures.value) c.in_ok-number.ensures.answer c.add.ensures.ok c.add.ensures.err
