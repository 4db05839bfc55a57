use Rattle.std.proofs.Common.{◌≡◌, map, drop}
use Rattle.og_parse.specs.Trees.{listed}
use Rattle.og_parse.specs.TreeOf.{assertion_of}
use Rattle.og_typed.specs.Plain.{formula}
use Rattle.og_typed.specs.Resolved as meaning
use Rattle.og_typed.specs.Scoped.{scope_of, use_of}
use Rattle.og_typed.proofs.Behind.{behind}
use Rattle.og_typed.proofs.formulas.+assertions.Given as goal

abbrev pub invariant-assertions-loop-a : goal.invariant-assertions-loop-a
invariant-assertions-loop-a l =
    behind (map formula l.resolved.items) (meaning.assertions (scope_of l.scope) (use_of l.usage) (listed (map assertion_of (drop l.a-index l.all))))
    ≡ meaning.assertions (scope_of l.scope) (use_of l.usage) (listed (map assertion_of l.all))
