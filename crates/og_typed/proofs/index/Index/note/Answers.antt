use Rattle.std.proofs.Common.{map, ap, ◌∙◌}
use Rattle.og_typed.specs.Seen.{note_of}
use Rattle.og_typed.specs.Sites.{all_notes}
use Rattle.og_typed.proofs.OneOf.{one_mapped}
use Rattle.og_typed.proofs.index.Index.note.Goals as goal

pub returns-clause-one : goal.returns-clause-one
returns-clause-one c =
    let sites = c.deref.result.now in
    one_mapped note_of sites (all_notes c.args.self.now) c.found.result
    (ap (map note_of) c.deref.ensures.value ∙ c.self.invariant.0 ∙ ap all_notes c.self.view_is) c.found.ensures.one
