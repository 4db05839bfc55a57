use Rattle.std.proofs.Common.{map, ap, ◌∙◌}
use Rattle.og_typed.specs.Seen.{statement_of}
use Rattle.og_typed.specs.Sites.{all_statements}
use Rattle.og_typed.proofs.OneOf.{one_mapped}
use Rattle.og_typed.proofs.index.Index.statement.Goals as goal

pub returns-clause-one : goal.returns-clause-one
returns-clause-one c =
    let sites = c.deref.result.now in
    one_mapped statement_of sites (all_statements c.args.self.now) c.found.result
    (ap (map statement_of) c.deref.ensures.value ∙ c.self.invariant.1 ∙ ap all_statements c.self.view_is) c.found.ensures.one
