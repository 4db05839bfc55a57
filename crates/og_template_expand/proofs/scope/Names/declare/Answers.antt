use Rattle.std.proofs.Common.{sym, ap, ◌∙◌, map}
use Rattle.std.specs.Prelude.{Ok}
use Rattle.og_template_expand.specs.Scope as scope
use Rattle.og_template_expand.specs.Scoped.{meaning_of, names_of}
use Rattle.og_template_expand.proofs.Naming.{entry_of, names_declared}
use Rattle.og_template_expand.proofs.scope.Names.declare.Goals as goal

pub returns : goal.returns
returns c =
    ap (λ name. Ok (scope.declared_with name (meaning_of c.args.meaning) (names_of c.args.self.now))) (sym c.as_slice.ensures)
    ∙ ap Ok (sym (ap (map entry_of) c.in_ok-insert.ensures.entries ∙ names_declared c.args.self.now.map.entries c.as_slice.result c.args.meaning))
