use Rattle.std.proofs.Common.{◌≡◌}
use Rattle.og_template_expand.specs.Scope.{declared_with}
use Rattle.og_template_expand.specs.Scoped.{meaning_of, names_of}
use Rattle.og_template_expand.specs.WholeOf.{variable_of}
use Rattle.og_template_expand.proofs.Declared.{variables_turn}
use Rattle.og_template_expand.proofs.declarations.declare_variables.Goals as goal

pub loop-variable-preserved : goal.loop-variable-preserved
loop-variable-preserved c =
    let names = names_of c.loop-variable.names in
    let x = c.variable-item.result in
    let next : declared_with x.name.name (meaning_of c.in_ok-own.means) names ≡ names_of c.declare.new.self = cc (c.in_ok-declare.ensures) in
    variables_turn variable_of names (names_of c.declare.new.self) c.loop-variable.all.items c.append.new.self.items c.args.variables.now c.loop-variable.variable-index x (c.in_ok-own.own.items, meaning_of c.in_ok-own.means) _
    c.loop-variable-test.true c.variable-item.is c.in_ok-own.ensures next c.in_ok-append.ensures.items c.loop-variable.invariant
