use Rattle.std.proofs.Common.{◌≡◌, ◌<◌, ◌⊎◌, inr, List, length, map, sym, subst, ap, ◌∙◌, arith}
use Rattle.std.specs.Prelude.{Ok}
use Rattle.og_parse.specs.Trees as outline
use Rattle.og_parse.specs.TreeOf.{assertion_of as tree_of}
use Rattle.og_template.specs.declared.tree.Unit as declared_unit
use Rattle.og_template.specs.declared.tree.Conjunction as declared_conjunction
use Rattle.og_template.specs.declared.tree.Unit.TheFolds.{fold_out-Conjunction, fold_out-Disjunction}
use Rattle.og_template_expand.specs.declared.connective.Connective.TheVariants.{And, Or}
use Rattle.og_template_expand.specs.Trees.{Unit, Assertion, Conjunction, Disjunction}
use Rattle.og_template_expand.specs.TreeOf.{unit_step, assertion_step, conjunction_step, disjunction_step, unit_of, conjunction_of, disjunction_of, binder_of, conjoined, disjoined}
use Rattle.og_template_expand.specs.Answer.{Checked, ◌>>=◌}
use Rattle.og_template_expand.specs.Assertions.{opens, joined, conjunction_by, disjunction_by, opened_by, quantified_by}
use Rattle.og_template_expand.specs.Scoped.{IsExpanded, scope_of}
use Rattle.og_template_expand.proofs.Joined.{conjunction_joined, disjunction_joined}
use Rattle.og_template_expand.proofs.Trees.{tree_all, tree_any}
use Rattle.og_template_expand.proofs.assertions.Level.+assertions.Goals as goal

pub conjunction-returns-in_ok-all-in_default : goal.conjunction-returns-in_ok-all-in_default
conjunction-returns-in_ok-all-in_default t c =
    let inner = opens c.args.self.now.levels in
    let scope = scope_of c.args.self.now.scope.now in
    let parts = c.as_slice.result.now in
    let tree : conjunction_of c.args.conjunction.now ≡ conjoined (map unit_of parts) =
    fold_out-Conjunction Unit Assertion Conjunction Disjunction unit_step assertion_step conjunction_step disjunction_step c.args.conjunction.now
    ∙ ap (λ (all : List declared_unit.Unit). conjoined (map unit_of all)) (sym c.as_slice.ensures.value) in
    let many : (length parts < 1) ⊎ (1 < length parts) = inr (omega arith) in
    ap (conjunction_by inner scope) tree
    ∙ conjunction_joined inner scope unit_of parts many
    ∙ ap (λ (a : Checked (List outline.Assertion)). a >>= λ all. Ok (joined And all)) c.in_ok-all-in_default.ensures
    ∙ ap Ok (sym c.joined-in_default.ensures)

pub disjunction-returns-in_ok-all-in_default : goal.disjunction-returns-in_ok-all-in_default
disjunction-returns-in_ok-all-in_default t c =
    let inner = opens c.args.self.now.levels in
    let scope = scope_of c.args.self.now.scope.now in
    let parts = c.as_slice.result.now in
    let tree : disjunction_of c.args.disjunction.now ≡ disjoined (map conjunction_of parts) =
    fold_out-Disjunction Unit Assertion Conjunction Disjunction unit_step assertion_step conjunction_step disjunction_step c.args.disjunction.now
    ∙ ap (λ (all : List declared_conjunction.Conjunction). disjoined (map conjunction_of all)) (sym c.as_slice.ensures.value) in
    let many : (length parts < 1) ⊎ (1 < length parts) = inr (omega arith) in
    ap (disjunction_by inner scope) tree
    ∙ disjunction_joined inner scope conjunction_of parts many
    ∙ ap (λ (a : Checked (List outline.Assertion)). a >>= λ all. Ok (joined Or all)) c.in_ok-all-in_default.ensures
    ∙ ap Ok (sym c.joined-in_default.ensures)

pub opened-returns-in-All : goal.opened-returns-in-All
opened-returns-in-All t c =
    let inner = opens c.args.self.now.levels in
    let scope = scope_of c.args.self.now.scope.now in
    subst (λ u. IsExpanded tree_of c.quantified.result (opened_by inner scope u)) (sym (ap unit_of c.in-All.is ∙ tree_all c.in-All.field-0 c.in-All.binder c.in-All.inner))
    (subst (λ u. IsExpanded tree_of c.quantified.result (quantified_by inner And scope (binder_of c.in-All.binder) (unit_of u))) c.deref-in-All.ensures c.quantified.ensures)

pub opened-returns-in-Any : goal.opened-returns-in-Any
opened-returns-in-Any t c =
    let inner = opens c.args.self.now.levels in
    let scope = scope_of c.args.self.now.scope.now in
    subst (λ u. IsExpanded tree_of c.quantified-in-Any.result (opened_by inner scope u)) (sym (ap unit_of c.in-Any.is ∙ tree_any c.in-Any.field-0 c.in-Any.binder c.in-Any.inner))
    (subst (λ u. IsExpanded tree_of c.quantified-in-Any.result (quantified_by inner Or scope (binder_of c.in-Any.binder) (unit_of u))) c.deref-in-Any.ensures c.quantified-in-Any.ensures)
