use mir.Syntax.{w64}
use mir.Val.{SFits, to_z, of_z}
use Rattle.std.proofs.Common.{◌≡◌, ◌++◌, map, sym, ap, ◌∙◌, rules}
use Rattle.std.proofs.lemmas.Int.{to_z-of_z}
use Rattle.og_template_expand.specs.Scope.{Scope, declared_with}
use Rattle.og_template_expand.specs.Scoped.{meaning_of, names_of}
use Rattle.og_template_expand.specs.TreeOf.{expression_of}
use Rattle.og_template_expand.specs.WholeOf.{auxiliary_of}
use Rattle.og_template_expand.specs.Values.{value_of}
use Rattle.og_template_expand.specs.Outline.{auxiliary}
use Rattle.og_template_expand.proofs.Declared.{auxiliaries_turn}
use Rattle.og_template_expand.proofs.declarations.declare_auxiliaries.Goals as goal

pub loop-auxiliary-preserved : goal.loop-auxiliary-preserved
loop-auxiliary-preserved c =
    let names = names_of c.loop-auxiliary.names in
    let x = c.auxiliary-item.result in
    let v = c.in_ok-value.value in
    let own = c.in_ok-own.own.items in
    let fit : SFits w64 v = search rules in
    let listed : c.in_ok-own-2.own.items ≡ map (auxiliary (to_z w64 (of_z w64 v))) c.deref.result.now = c.in_ok-own-2.ensures in
    let plain : c.in_ok-own-2.own.items ≡ map (auxiliary v) own =
    listed ∙ ap (λ z. map (auxiliary z) c.deref.result.now) (to_z-of_z w64 v fit) ∙ ap (map (auxiliary v)) c.deref.ensures.value in
    let value = ap (λ (s : Scope). value_of s (expression_of x.value)) (sym c.new.ensures) ∙ c.in_ok-value.ensures in
    let next : declared_with x.name.name (meaning_of c.in_ok-own.means) names ≡ names_of c.declare.new.self = cc (c.in_ok-declare.ensures) in
    auxiliaries_turn auxiliary_of names (names_of c.declare.new.self) c.loop-auxiliary.all.items c.append.new.self.items c.args.auxiliaries.now c.loop-auxiliary.auxiliary-index x (own, meaning_of c.in_ok-own.means) v _
    c.loop-auxiliary-test.true c.auxiliary-item.is c.in_ok-own.ensures value next (c.in_ok-append.ensures.items ∙ ap (λ l. c.loop-auxiliary.all.items ++ l) plain) c.loop-auxiliary.invariant
