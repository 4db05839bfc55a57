use Rattle.std.proofs.Common.{◌≡◌, None, map, drop}
use Rattle.og_template_expand.specs.Scope as scope
use Rattle.og_template_expand.specs.Scoped.{binding_of}
use Rattle.og_template_expand.proofs.scope.last_value.Given as goal

abbrev pub invariant-loop-binding : goal.invariant-loop-binding
invariant-loop-binding l = scope.last_value l.found (map binding_of (drop l.binding-index l.bindings)) l.name ≡ scope.last_value None (map binding_of l.bindings) l.name
