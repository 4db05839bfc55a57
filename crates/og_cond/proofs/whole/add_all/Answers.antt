use Rattle.std.proofs.Common.{◌≡◌, ℕ, [], ◌∷◌, ◌++◌, map, length, ap, ◌∙◌}
use Rattle.std.specs.Prelude.{flat_map}
use Rattle.og_cond.specs.Conditions.{interference, prologue_conditions, start_condition, end_condition, epilogue_conditions, blocking_condition, seq_conditions}
use Rattle.og_cond.specs.Crossing.{side_of, crosses, crossings}
use Rattle.og_cond.specs.Seen.{seen}
use Rattle.og_cond.specs.Sides.{side_seen}
use Rattle.og_cond.proofs.SideLists.{interference_crossed}
use Rattle.og_cond.proofs.WholeList.{on_ok, joined}
use Rattle.og_cond.proofs.whole.add_all.Goals as goal

pub returns : goal.returns
returns c =
    let o = c.args.outline.now in
    let rule = c.follows_rule.ensures in
    let n : ℕ = length c.names.result.now in
    let same : n ≡ length o.names = ap length c.names.ensures in
    let sides = ap (map side_seen) c.deref.ensures.value ∙ c.in_ok-sides.ensures ∙ ap (map side_of) c.processes.ensures in
    let crossed : crossings crosses n [] (map side_seen c.deref.result.now) ≡ interference (length o.names) [] o.processes =
    (λ i. crossings crosses (same i) [] (sides i)) ∙ interference_crossed (length o.names) rule.few (length o.names) o.processes rule.usable in
    let others = c.in_ok-add_crossings.ensures ∙ ap (λ l. map seen c.add_first.new.conditions.items ++ l) crossed in
    on_ok _ _ c.add_last.result
    (λ last. joined _ _ _ _ (prologue_conditions o o.prologue) (map (start_condition o) o.processes) (flat_map (seq_conditions (length o.names)) o.processes) (interference (length o.names) [] o.processes) (epilogue_conditions o o.epilogue) (blocking_condition o ∷ []) (end_condition o) c.in_ok-add_first.ensures others last)
    c.add_last.ensures
