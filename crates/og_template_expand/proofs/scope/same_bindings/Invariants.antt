use Rattle.std.proofs.Common.{◌≡◌, map, take}
use Rattle.og_template_expand.specs.Scoped.{binding_of}
use Rattle.og_template_expand.proofs.scope.same_bindings.Given as goal

abbrev pub invariant-loop-binding : goal.invariant-loop-binding
invariant-loop-binding l = map binding_of l.all.items ≡ map binding_of (take l.binding-index l.bindings)
