use Rattle.std.proofs.Common.{Some, option_map, sym, ap, ◌∙◌}
use Rattle.og_subst.specs.Subst.{forward, values}
use Rattle.og_subst.specs.Actions.{action_tree}
use Rattle.og_cond.specs.Condition.{assignments}
use Rattle.og_cond.specs.Seen.{seen}
use Rattle.og_facts.proofs.Walked.{facts_walked}
use Rattle.og_facts.proofs.listing.facts_of_own.Goals as goal

pub returns-in_ok-prepared-in-Some : goal.returns-in_ok-prepared-in-Some
returns-in_ok-prepared-in-Some c =
    let forms = ap (λ a. forward (assignments (option_map action_tree a))) c.in-Some.is ∙ c.in_ok-prepared-in-Some.ensures.map ∙ ap Some (sym c.map.ensures) ∙ ap Some (sym c.new-moves.ensures) in
    let parts = ap (λ a. values (assignments (option_map action_tree a))) c.in-Some.is ∙ c.in_ok-prepared-in-Some.ensures.values ∙ ap Some (sym c.values.ensures) in
    rw (sym (facts_walked (seen c.args.condition.now) c.new-moves.result c.values.result.now forms parts)) c.all_facts.ensures

pub returns-in-None : goal.returns-in-None
returns-in-None c =
    let forms = ap (λ a. forward (assignments (option_map action_tree a))) c.in-None.is ∙ ap Some (sym c.new-map.ensures) ∙ ap Some (sym c.new-moves-in-None.ensures) in
    let parts = ap (λ a. values (assignments (option_map action_tree a))) c.in-None.is ∙ ap Some (sym (c.deref.ensures.value ∙ c.new-values.ensures.items)) in
    rw (sym (facts_walked (seen c.args.condition.now) c.new-moves-in-None.result c.deref.result.now forms parts)) c.all_facts-in-None.ensures
