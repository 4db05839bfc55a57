use Rattle.std.proofs.Common.{Some, sym, ap, ◌∙◌}
use Rattle.og_cond.specs.Seen.{seen}
use Rattle.og_facts.proofs.Prepared.{prepared_parts}
use Rattle.og_facts.proofs.Walked.{facts_walked}
use Rattle.og_facts.proofs.listing.facts_with.Goals as goal

pub listed-requires-clause-facts : goal.listed-requires-clause-facts
listed-requires-clause-facts c =
    let parts = prepared_parts c.args.condition.now.action c.args.action.now c.requires in
    rw (sym (facts_walked (seen c.args.condition.now) c.new-moves.result c.values.result.now (parts.0 ∙ ap Some (sym c.map.ensures) ∙ ap Some (sym c.new-moves.ensures)) (parts.1 ∙ ap Some (sym c.values.ensures))))
    c.all_facts-facts.ensures
