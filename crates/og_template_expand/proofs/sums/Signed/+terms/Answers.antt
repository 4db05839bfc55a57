use mir.Syntax.{w64}
use mir.Val.{SFits, to_z, of_z}
use Rattle.std.proofs.lemmas.Int.{to_z-of_z}
use Rattle.std.proofs.Common.{◌≡◌, ℤ, pos, List, ◌++◌, get_or, map, sym, subst, ap, ◌∙◌, Vec, Global, rules}
use Rattle.std.specs.Prelude.{Ok, Some, None}
use Rattle.std.proofs.lemmas.List.{append-nil}
use Rattle.std.proofs.lemmas.Result.{err_from_is_err_and}
use Rattle.og_parse.specs.declared.raw.RawTerm.{RawTerm}
use Rattle.og_template_expand.specs.Answer.{Checked, ◌>>=◌, behind, gathered}
use Rattle.og_template_expand.specs.Scope.{Scope}
use Rattle.og_template_expand.specs.Ranges.{instances, instance_of, entered}
use Rattle.og_template_expand.specs.Sums as sums
use Rattle.og_template_expand.specs.Scoped.{FailsAs, scope_of}
use Rattle.og_template_expand.specs.TreeOf.{binder_of, signed_of, kind_of, terms_then}
use Rattle.og_template_expand.proofs.Entering.{entered_in, passed_in, enter_fails, inside_fails}
use Rattle.og_template_expand.proofs.Lists.{gathered_turn, gathered_stops, failed, fails_then}
use Rattle.og_template_expand.proofs.Trees.{tree_total}
use Rattle.og_template_expand.proofs.sums.Signed.+terms.Goals as goal
use Rattle.og_template_expand.proofs.sums.Signed.+terms.Goals.{instances_of-in-Some+in_ok-put_terms, instances_of-in_default}

pub instances_of-loop-value-preserved : goal.instances_of-loop-value-preserved
instances_of-loop-value-preserved t c =
    let scope = scope_of c.args.self.now.scope.now in
    let binder = binder_of c.args.binder.now in
    let body = λ (s : Scope). sums.terms_of s c.args.self.now.sign (terms_then (map signed_of c.args.terms.now)) in
    let each = instance_of scope binder body in
    let values = c.deref-value-items.result.now in
    let i = c.loop-value.value-index in
    let fit : SFits w64 (get_or values i (pos 0)) = search rules in
    let x = to_z w64 (of_z w64 (get_or values i (pos 0))) in
    let out = c.loop-value.all.items in
    let made : behind out (each x) ≡ Ok c.match-branch-3.all.items = elim c.match-branch-3.branch [
      | instances_of-in-Some+in_ok-put_terms w ↦
          let is : entered scope binder x ≡ Ok (Some (scope_of w.in-Some.inner)) = rw w.in-Some.is at c.in_ok-inner.ensures in
          subst (λ (v : Vec RawTerm Global). behind out (each x) ≡ Ok v.items) (sym w.all-is) (entered_in scope binder body x (λ ys. Ok (out ++ ys)) (Ok w.put_terms.new.all.items) (scope_of w.in-Some.inner) is w.in_ok-put_terms.ensures)
      | instances_of-in_default w ↦
          let is : entered scope binder x ≡ Ok None = rw w.in_default.is at c.in_ok-inner.ensures in
          subst (λ (v : Vec RawTerm Global). behind out (each x) ≡ Ok v.items) (sym w.all-is) (passed_in scope binder body x (λ ys. Ok (out ++ ys)) (Ok out) is (ap Ok (append-nil out)))
    ] in
    gathered_turn each out c.match-branch-3.all.items values i (pos 0) x _ c.loop-value-test.true (to_z-of_z w64 _ fit) made c.loop-value.invariant

pub instances_of-returns-in_err-inner : goal.instances_of-returns-in_err-inner
instances_of-returns-in_err-inner t c =
    let scope = scope_of c.args.self.now.scope.now in
    let binder = binder_of c.args.binder.now in
    let body = λ (s : Scope). sums.terms_of s c.args.self.now.sign (terms_then (map signed_of c.args.terms.now)) in
    let each = instance_of scope binder body in
    let values = c.deref-value-items.result.now in
    let i = c.loop-value.value-index in
    let fit : SFits w64 (get_or values i (pos 0)) = search rules in
    let x = to_z w64 (of_z w64 (get_or values i (pos 0))) in
    let out = c.loop-value.all.items in
    let e = c.in_err-inner.field-0.0 in
    let p = err_from_is_err_and c.from_residual-in_err-inner.result c.from_residual-in_err-inner.ensures.1 in
    let all : gathered each values ≡ instances scope binder body =
    ap (gathered each) c.deref-value-items.ensures.value ∙ ap (λ (r : Checked (List ℤ)). r >>= gathered each) (sym c.in_ok-values.ensures) in
    rw p.1 (failed (λ (v : Vec RawTerm Global). v.items) e p.0 (instances scope binder body) p.2
    (gathered_stops each e out values i (pos 0) x (instances scope binder body) c.loop-value-test.true (to_z-of_z w64 _ fit) (enter_fails scope binder body x (λ ys. Ok (out ++ ys)) e c.in_err-inner.ensures) (c.loop-value.invariant ∙ all)))

pub instances_of-returns-in_err-put_terms : goal.instances_of-returns-in_err-put_terms
instances_of-returns-in_err-put_terms t c =
    let scope = scope_of c.args.self.now.scope.now in
    let binder = binder_of c.args.binder.now in
    let body = λ (s : Scope). sums.terms_of s c.args.self.now.sign (terms_then (map signed_of c.args.terms.now)) in
    let each = instance_of scope binder body in
    let values = c.deref-value-items.result.now in
    let i = c.loop-value.value-index in
    let fit : SFits w64 (get_or values i (pos 0)) = search rules in
    let x = to_z w64 (of_z w64 (get_or values i (pos 0))) in
    let out = c.loop-value.all.items in
    let e = c.in_err-put_terms.field-0.0 in
    let is : entered scope binder x ≡ Ok (Some (scope_of c.in-Some.inner)) = rw c.in-Some.is at c.in_ok-inner.ensures in
    let p = err_from_is_err_and c.from_residual-in_err-put_terms.result c.from_residual-in_err-put_terms.ensures.1 in
    let all : gathered each values ≡ instances scope binder body =
    ap (gathered each) c.deref-value-items.ensures.value ∙ ap (λ (r : Checked (List ℤ)). r >>= gathered each) (sym c.in_ok-values.ensures) in
    rw p.1 (failed (λ (v : Vec RawTerm Global). v.items) e p.0 (instances scope binder body) p.2
    (gathered_stops each e out values i (pos 0) x (instances scope binder body) c.loop-value-test.true (to_z-of_z w64 _ fit) (inside_fails scope binder body x (λ ys. Ok (out ++ ys)) e (scope_of c.in-Some.inner) is c.in_err-put_terms.ensures) (c.loop-value.invariant ∙ all)))

pub terms_of_kind-returns-in_err-all-in-Total : goal.terms_of_kind-returns-in_err-all-in-Total
terms_of_kind-returns-in_err-all-in-Total t c =
    let scope = scope_of c.args.self.now.scope.now in
    let sign = c.args.self.now.sign in
    let p = err_from_is_err_and c.from_residual-in_err-all-in-Total.result c.from_residual-in_err-all-in-Total.ensures.1 in
    rw p.1 (failed (λ (v : Vec RawTerm Global). v.items) c.in_err-all-in-Total.field-0.0 p.0 (sums.kind_of scope sign c.args.span (kind_of c.args.kind.now)) p.2
    (subst (λ k. FailsAs c.in_err-all-in-Total.field-0.0 (sums.kind_of scope sign c.args.span k)) (sym (ap kind_of c.in-Total.is ∙ tree_total c.in-Total.binder c.in-Total.terms))
    (subst (λ items. FailsAs c.in_err-all-in-Total.field-0.0 (instances scope (binder_of c.in-Total.binder) (λ s. sums.terms_of s sign (terms_then (map signed_of items))) >>= λ all. Ok (sums.or_zero sign all))) c.deref.ensures.value
    (fails_then c.in_err-all-in-Total.field-0.0 _ (λ all. Ok (sums.or_zero sign all)) c.in_err-all-in-Total.ensures))))

pub terms_of_kind-returns-in_ok-or_zero-in-Total : goal.terms_of_kind-returns-in_ok-or_zero-in-Total
terms_of_kind-returns-in_ok-or_zero-in-Total t c =
    let scope = scope_of c.args.self.now.scope.now in
    let sign = c.args.self.now.sign in
    ap (sums.kind_of scope sign c.args.span) (ap kind_of c.in-Total.is ∙ tree_total c.in-Total.binder c.in-Total.terms)
    ∙ ap (λ items. instances scope (binder_of c.in-Total.binder) (λ s. sums.terms_of s sign (terms_then (map signed_of items))) >>= λ all. Ok (sums.or_zero sign all)) (sym c.deref.ensures.value)
    ∙ ap (λ a. a >>= λ all. Ok (sums.or_zero sign all)) c.in_ok-all-in-Total.ensures
    ∙ ap Ok (sym c.in_ok-or_zero-in-Total.ensures)
