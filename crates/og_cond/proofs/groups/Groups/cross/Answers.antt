use Rattle.std.proofs.Common.{◌≡◌, ◌≤◌, ◌+◌, ◌-◌, Some, slice_get, ◌++◌, map, take, drop, length, ap, refl, sym, ◌∙◌, arith}
use Rattle.std.proofs.lemmas.List.{take_all, length-drop}
use Rattle.std.proofs.lemmas.Option.{slice_get_read}
use Rattle.og_cond.specs.Crossing.{crosses, action_crossings}
use Rattle.og_cond.specs.Groups.{rest_at, left_at}
use Rattle.og_cond.specs.Seen.{seen}
use Rattle.og_cond.specs.Sides.{action_of, side_seen}
use Rattle.og_cond.specs.declared.groups.Next.TheVariants as next
use Rattle.og_cond.proofs.Grouped.{action_step, process_step}
use Rattle.og_cond.proofs.groups.Groups.cross.Goals as goal

pub returns-in_default-get-clause-next : goal.returns-in_default-get-clause-next
returns-in_default-get-clause-next c =
    let o = c.args.self.now.outline.now in
    let sides = map side_seen c.args.self.now.sides.items in
    let found : slice_get c.args.self.now.sides.items c.args.process ≡ Some c.in-Some.side.now =
    ap (λ l. slice_get l c.args.process) (sym c.deref.ensures.value) ∙ slice_get_read c.deref.result.now _ _ _ refl c.in-Some.ensures.lookup.3.0 c.in-Some.ensures.lookup.1 in
    let out : length c.in-Some.side.now.moves.items ≤ c.args.action = omega (arith, c.in_default-get.ensures.lookup, ap length c.deref-2.ensures.value) in
    let step = process_step o c.args.self.now.sides.items c.args.process c.args.action c.in-Some.side.now found out in
    (ap (rest_at o sides) c.requires ∙ step.0 ∙ ap (λ l. map seen l ++ rest_at o sides (next.Action (c.args.process + 1) 0)) (sym c.new.ensures.items), omega (arith, step.1, ap (left_at sides) c.requires))

pub returns-clause-next : goal.returns-clause-next
returns-clause-next c =
    let o = c.args.self.now.outline.now in
    let sides = map side_seen c.args.self.now.sides.items in
    let found : slice_get c.args.self.now.sides.items c.args.process ≡ Some c.in-Some.side.now =
    ap (λ l. slice_get l c.args.process) (sym c.deref.ensures.value) ∙ slice_get_read c.deref.result.now _ _ _ refl c.in-Some.ensures.lookup.3.0 c.in-Some.ensures.lookup.1 in
    let act : slice_get c.in-Some.side.now.moves.items c.args.action ≡ Some c.in-Some-get.act.now =
    ap (λ l. slice_get l c.args.action) (sym c.deref-2.ensures.value) ∙ slice_get_read c.deref-2.result.now _ _ _ refl c.in-Some-get.ensures.lookup.3.0 c.in-Some-get.ensures.lookup.1 in
    let step = action_step o c.args.self.now.sides.items c.args.process c.args.action c.in-Some.side.now found c.in-Some-get.act.now act in
    let same : length c.names.result.now ≡ length o.names = ap length c.names.ensures in
    let all = c.deref-4.result.now in
    let after : take (length all - (c.args.process + 1)) (drop (c.args.process + 1) all) ≡ drop (c.args.process + 1) all =
    take_all _ (drop (c.args.process + 1) all) (omega (arith, length-drop (c.args.process + 1) all)) in
    let made : map seen c.in_ok-group-2.group.items ≡ action_crossings crosses (length o.names) (action_of c.in-Some-get.act.now) (map side_seen (take c.args.process c.args.self.now.sides.items) ++ map side_seen (drop (c.args.process + 1) c.args.self.now.sides.items)) =
    c.in_ok-group-2.ensures
    ∙ ap (λ l. action_crossings crosses (length c.names.result.now) (action_of c.in-Some-get.act.now) (map side_seen (take c.args.process c.deref-3.result.now) ++ map side_seen l)) after
    ∙ (λ i. action_crossings crosses (same i) (action_of c.in-Some-get.act.now) (map side_seen (take c.args.process (c.deref-3.ensures.value i)) ++ map side_seen (drop (c.args.process + 1) (c.deref-4.ensures.value i)))) in
    (ap (rest_at o sides) c.requires ∙ step.0 ∙ ap (λ l. l ++ rest_at o sides (next.Action c.args.process (c.args.action + 1))) (sym made), omega (arith, step.1, ap (left_at sides) c.requires))
