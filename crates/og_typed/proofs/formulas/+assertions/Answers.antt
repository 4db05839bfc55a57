use Rattle.std.proofs.Common.{Vec, Global, map, sym, ap, ◌∙◌, arith}
use Rattle.std.specs.Prelude.{Ok}
use Rattle.std.proofs.lemmas.Result.{err_from_is_err_and}
use Rattle.og_parse.specs.Trees.{listed}
use Rattle.og_parse.specs.TreeOf.{assertion_of}
use Rattle.og_typed.specs.declared.assertion.Assert.{Assert}
use Rattle.og_typed.specs.Plain.{formula}
use Rattle.og_typed.specs.Syntax.{Formulas, And, Or}
use Rattle.og_typed.specs.Lists.{formula_list}
use Rattle.og_typed.specs.Resolved as meaning
use Rattle.og_typed.specs.Resolved.{Checked, ◌>>=◌}
use Rattle.og_typed.specs.Scoped.{scope_of, use_of}
use Rattle.og_typed.proofs.Lists.{formula_and, formula_or}
use Rattle.og_typed.proofs.RawTrees.{tree_and, tree_or}
use Rattle.og_typed.proofs.Behind.{list_turn, list_stops, list_end, fails_from}
use Rattle.og_typed.proofs.formulas.+assertions.Goals as goal

pub assertion-returns-in_ok-assertions-in-And : goal.assertion-returns-in_ok-assertions-in-And
assertion-returns-in_ok-assertions-in-And t c =
    let scope = scope_of c.args.scope.now in
    let usage = use_of c.args.usage in
    ap (meaning.assertion scope usage) (ap assertion_of c.in-And.is ∙ tree_and c.in-And.all)
    ∙ ap (λ items. meaning.assertions scope usage (listed (map assertion_of items)) >>= λ bs. Ok (And bs)) (sym c.deref-in-And.ensures.value)
    ∙ ap (λ (answer : Checked Formulas). answer >>= λ bs. Ok (And bs)) c.in_ok-assertions-in-And.ensures
    ∙ ap Ok (sym (formula_and c.in_ok-assertions-in-And.field-0))

pub assertion-returns-in_ok-assertions-in-Or : goal.assertion-returns-in_ok-assertions-in-Or
assertion-returns-in_ok-assertions-in-Or t c =
    let scope = scope_of c.args.scope.now in
    let usage = use_of c.args.usage in
    ap (meaning.assertion scope usage) (ap assertion_of c.in-Or.is ∙ tree_or c.in-Or.all)
    ∙ ap (λ items. meaning.assertions scope usage (listed (map assertion_of items)) >>= λ bs. Ok (Or bs)) (sym c.deref-in-Or.ensures.value)
    ∙ ap (λ (answer : Checked Formulas). answer >>= λ bs. Ok (Or bs)) c.in_ok-assertions-in-Or.ensures
    ∙ ap Ok (sym (formula_or c.in_ok-assertions-in-Or.field-0))

pub assertions-returns-in_err-assertion : goal.assertions-returns-in_err-assertion
assertions-returns-in_err-assertion t c =
    let scope = scope_of c.args.scope.now in
    let usage = use_of c.args.usage in
    let p = err_from_is_err_and c.from_residual.result c.from_residual.ensures.1 in
    rw p.1 (fails_from (λ (v : Vec Assert Global). formula_list (map formula v.items)) c.in_err-assertion.field-0.0 p.0 (meaning.assertion scope usage (assertion_of c.a-item.result)) _ c.in_err-assertion.ensures p.2
    (λ fault e. list_stops scope usage assertion_of (map formula c.loop-a.resolved.items) c.args.all.now c.loop-a.a-index c.a-item.result _ fault c.loop-a-test.true c.a-item.is c.loop-a.invariant e))

pub assertions-loop-a-preserved : goal.assertions-loop-a-preserved
assertions-loop-a-preserved t c =
    list_turn (scope_of c.args.scope.now) (use_of c.args.usage) formula assertion_of c.loop-a.resolved.items c.push.new.self.items c.in_ok-assertion.field-0 c.args.all.now c.loop-a.a-index c.a-item.result
    c.loop-a-test.true c.a-item.is c.in_ok-push.ensures.items c.in_ok-assertion.ensures
    ∙ c.loop-a.invariant

pub assertions-returns : goal.assertions-returns
assertions-returns t c =
    list_end (scope_of c.args.scope.now) (use_of c.args.usage) formula assertion_of c.loop-a.resolved.items c.args.all.now c.loop-a.a-index _ (omega arith) c.loop-a.invariant
