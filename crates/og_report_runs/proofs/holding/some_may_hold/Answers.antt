use Rattle.std.proofs.Common.{◌≡◌, List, Some, length, map, slice_get, true, refl, sym, ap, ◌∙◌, arith, below_more}
use Rattle.std.specs.Prelude.{option_map}
use Rattle.std.proofs.lemmas.List.{length-map}
use Rattle.std.proofs.lemmas.Option.{slice_get-map, slice_get_read, slice_get_within, same_Some}
use Rattle.og_cond.specs.Condition.{Part}
use Rattle.og_cond.specs.Seen.{part_of, parts_of}
use Rattle.og_cond.specs.Valid.{all_parts}
use Rattle.og_report_runs.proofs.Parts.{none_of}
use Rattle.og_report_runs.proofs.holding.some_may_hold.Goals as goal

pub loop-parts-preserved : goal.loop-parts-preserved
loop-parts-preserved c =
    let lists = c.args.lists.now in
    let i = c.loop-parts.parts-index in
    let item = c.parts-item.result in
    let s = c.args.values.now in
    let at : slice_get (map parts_of lists) i ≡ Some (parts_of item) =
    slice_get-map parts_of lists i ∙ ap (option_map parts_of) (slice_get_read lists (length lists) i item refl c.loop-parts-test.true c.parts-item.is) in
    below_more (λ k. (parts : List Part) → slice_get (map parts_of lists) k ≡ Some parts → all_parts s parts ≡ true → ⊥) i c.loop-parts.invariant
    (λ parts e h.
    let same : map part_of c.deref.result.now ≡ parts = ap (map part_of) c.deref.ensures.value ∙ same_Some (parts_of item) parts (sym at ∙ e) in
    c.parts_may_hold.ensures c.if-parts_may_hold.false (ap (all_parts s) same ∙ h))

pub returns : goal.returns
returns c =
    let lists = c.args.lists.now in
    let end = c.loop-parts-test.false in
    let long : length (map parts_of lists) ≡ length lists = simp length-map in
    λ no. none_of c.args.values.now (map parts_of lists) (λ k parts e. let lt = slice_get_within (map parts_of lists) k parts e in c.loop-parts.invariant k (omega (arith, lt, long, end)) parts e)
