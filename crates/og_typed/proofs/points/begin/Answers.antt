use Rattle.std.proofs.Common.{◌≡◌, ◌++◌, map, sym, ap, ap₂, ◌∙◌, subst}
use Rattle.og_typed.specs.Syntax.{items, part_items}
use Rattle.og_typed.specs.Points.{part_rests, parts_rests}
use Rattle.og_typed.specs.Table.{rests_of, IsGrown}
use Rattle.og_typed.proofs.Tables.{grown_both, grown_rest, grown_rests, linked_all, then_more}
use Rattle.og_typed.proofs.points.begin.Goals as goal

pub invariant_of-points : goal.invariant_of-points
invariant_of-points c =
    linked_all c.add_part-2.new.points.items
    (subst (λ l. IsGrown l c.add_part-2.new.points.items) c.new-points.ensures.items
    (grown_both _ _ _ c.in_ok-prologue.ensures.grown (grown_both _ _ _ c.in_ok-rests.ensures.grown c.in_ok-epilogue.ensures.grown)))

pub returns-clause-prologue : goal.returns-clause-prologue
returns-clause-prologue c =
    grown_rest c.add_part.new.points.items c.add_part-2.new.points.items c.in_ok-prologue.prologue
    (grown_both _ _ _ c.in_ok-rests.ensures.grown c.in_ok-epilogue.ensures.grown) c.in_ok-prologue.ensures.place
    ∙ c.in_ok-prologue.ensures.rest ∙ ap part_items c.prologue.ensures

pub returns-clause-rests : goal.returns-clause-rests
returns-clause-rests c =
    grown_rests c.add_parts.new.points.items c.add_part-2.new.points.items c.in_ok-rests.rests.items c.in_ok-epilogue.ensures.grown c.in_ok-rests.ensures.places
    ∙ c.in_ok-rests.ensures.rests ∙ ap (map items) c.processes.ensures

pub returns-clause-points : goal.returns-clause-points
returns-clause-points c =
    let none = rests_of c.new-points.result.items in
    let first : rests_of c.add_part.new.points.items ≡ none ++ part_rests c.args.outline.now.prologue = c.in_ok-prologue.ensures.table ∙ ap (λ p. none ++ part_rests p) c.prologue.ensures in
    let second : rests_of c.add_parts.new.points.items ≡ rests_of c.add_part.new.points.items ++ parts_rests c.args.outline.now.processes =
    c.in_ok-rests.ensures.table ∙ ap (λ p. rests_of c.add_part.new.points.items ++ parts_rests p) c.processes.ensures in
    let third : rests_of c.add_part-2.new.points.items ≡ rests_of c.add_parts.new.points.items ++ part_rests c.args.outline.now.epilogue =
    c.in_ok-epilogue.ensures.table ∙ ap (λ p. rests_of c.add_parts.new.points.items ++ part_rests p) c.epilogue.ensures in
    then_more none (rests_of c.add_part.new.points.items) (rests_of c.add_part-2.new.points.items) _ _ first (then_more (rests_of c.add_part.new.points.items) (rests_of c.add_parts.new.points.items) (rests_of c.add_part-2.new.points.items) _ _ second third)
    ∙ ap (λ l. rests_of l ++ (part_rests c.args.outline.now.prologue ++ (parts_rests c.args.outline.now.processes ++ part_rests c.args.outline.now.epilogue))) c.new-points.ensures.items
