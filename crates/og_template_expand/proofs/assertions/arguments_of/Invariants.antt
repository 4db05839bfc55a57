use Rattle.std.proofs.Common.{◌≡◌, map, drop}
use Rattle.og_template_expand.specs.Answer.{behind}
use Rattle.og_template_expand.specs.Assertions as meaning
use Rattle.og_template_expand.specs.Scoped.{binding_of, scope_of}
use Rattle.og_template_expand.specs.TreeOf.{expression_of}
use Rattle.og_template_expand.proofs.assertions.arguments_of.Given as goal

abbrev pub invariant-loop-argument : goal.invariant-loop-argument
invariant-loop-argument l =
    behind (map binding_of l.all.items) (meaning.arguments_of (scope_of l.scope) l.rest (map expression_of (drop l.argument-index l.arguments)))
    ≡ meaning.arguments_of (scope_of l.scope) l.parameters (map expression_of l.arguments)
