use mir.Syntax.{w64}
use mir.Val.{SFits, to_z, of_z}
use Rattle.std.proofs.Common.{map, ◌≡◌, ap, ◌∙◌, sym, rules}
use Rattle.std.proofs.lemmas.Int.{to_z-of_z}
use Rattle.og_template_expand.specs.Scope.{Value, declared_with}
use Rattle.og_template_expand.specs.Scoped.{binding_of, names_of}
use Rattle.og_template_expand.specs.WholeOf.{constant_of}
use Rattle.og_template_expand.proofs.Declared.{constants_turn}
use Rattle.og_template_expand.proofs.declarations.declare_constants.Goals as goal

pub loop-declared-preserved : goal.loop-declared-preserved
loop-declared-preserved c =
    let names = names_of c.loop-declared.names in
    let x = c.declared-item.result in
    let v = c.in_ok-value.value in
    let fit : SFits w64 v = search rules in
    let made : declared_with x.name.name (Value (to_z w64 (of_z w64 v))) names ≡ names_of c.declare.new.self = cc (c.in_ok-declare.ensures) in
    let next : declared_with x.name.name (Value v) names ≡ names_of c.declare.new.self = ap (λ z. declared_with x.name.name (Value z) names) (sym (to_z-of_z w64 v fit)) ∙ made in
    constants_turn constant_of (map binding_of c.args.values.now) names (names_of c.declare.new.self) c.args.constants.now c.loop-declared.declared-index x v _
    c.loop-declared-test.true c.declared-item.is c.in_ok-value.ensures next c.loop-declared.invariant
