use Rattle.std.proofs.Common.{◌≡◌, ◌++◌, ◌∷◌, ◌<◌, ◌≤◌, ◌+◌, ◌-◌, ℕ, List, [], get_or, Vec, Box, Global, Option, None, Bool, length, length-append, set, slice_set, rules, map, drop, Some, refl, sym, ap, ap₂, ◌∙◌, subst, arith, ⊎_elim, drop_of_length-le, append-nil}
use Rattle.og_typed.specs.Syntax.{If, While, Otherwise, Nothing, Else, Rest, items, else_items}
use Rattle.og_typed.specs.Plain.{formula, item_pair, sequence, statement}
use Rattle.std.proofs.lemmas.Option.{get_or_from_slice_get}
use Rattle.std.proofs.lemmas.List.{drop_more}
use Rattle.og_typed.specs.declared.assertion.Assert.{Assert}
use Rattle.og_typed.specs.declared.statement.Stmt.TheVariants as variants
use Rattle.og_typed.specs.declared.statement.Seq.{Seq, out-Seq}
use Rattle.og_typed.proofs.Lists.{items_out}
use Rattle.og_typed.specs.declared.points.Point.{Point}
use Rattle.og_typed.specs.Points.{rest_at, past, passed, statement_rests, sequence_rests, else_rests}
use Rattle.og_typed.specs.Table.{rests_of, IsGrown}
use Rattle.og_typed.proofs.Tables.{Leads, with_inside, rest_of_point, grown_none, grown_both, grown_rest, grown_long, grown_push, push_rest, if_leads, loop_linked, step_leads, set_at, set_rests, set_grown, list_rests, sequence_list, push_table, then_more}
use Rattle.og_typed.proofs.points.+points.Goals.{add_item-in-Some+in_ok-otherwise-in-Some, add_item-in-None}
use Rattle.og_typed.proofs.points.+points.Goals as goal

pub add_item-returns-in_ok-at-in-Skip-clause-grown : goal.add_item-returns-in_ok-at-in-Skip-clause-grown
add_item-returns-in_ok-at-in-Skip-clause-grown t c =
    let old = c.args.points.now.items in
    let item = c.args.item.now in
    let p : Point = record { item = c.args.item; after = c.args.after; inside = c.args.after; otherwise = c.args.after } in
    let rest : Rest = rest_at (rests_of old) c.args.after in
    let same : (b : Bool) → passed b (rest_of_point (rests_of old) p) ≡ rest =
    λ b. ⊎_elim (λ e. ap (λ s. past b (item_pair item).0 (statement s) rest) e)
    (⊎_elim (λ e. ap (λ s. past b (item_pair item).0 (statement s) rest) e.2) (λ e. ap (λ s. past b (item_pair item).0 (statement s) rest) e.2)) c.in-Skip.is in
    subst (IsGrown old) (sym (c.in_ok-at-in-Skip.ensures.points ∙ ap (λ q. old ++ q ∷ []) c.new-in-Skip.ensures))
    (grown_push old p (step_leads old p c.requires.known refl refl same))

pub add_item-returns-in_ok-at-in-Skip-clause-rest : goal.add_item-returns-in_ok-at-in-Skip-clause-rest
add_item-returns-in_ok-at-in-Skip-clause-rest t c =
    let old = c.args.points.now.items in
    let p : Point = record { item = c.args.item; after = c.args.after; inside = c.args.after; otherwise = c.args.after } in
    let e = c.in_ok-at-in-Skip.ensures.points ∙ ap (λ q. old ++ q ∷ []) c.new-in-Skip.ensures in
    ap₂ (λ l k. rest_at (rests_of l) k) e (c.in_ok-at-in-Skip.ensures.last ∙ ap length e) ∙ push_rest old p

le_both : {a b c : ℕ} → a ≤ b → b ≤ c → a ≤ c
le_both h k = omega (arith, h, k)

-- an else branch that may be absent
abbrev other_of : Option (Box Seq Global) → Otherwise
other_of None = Nothing
other_of (Some q) = Else (sequence q.value)

if_view : (b : Assert) (branch : Box Seq Global) (other : Option (Box Seq Global)) → statement (variants.If b branch other) ≡ If (formula b) (sequence branch.value) (other_of other)
if_view b branch None = refl
if_view b branch (Some q) = refl

-- the other branch was added behind the first
abbrev IsOther : List Point → List Point → Vec Point Global → ℕ → ℕ → Otherwise → Type 0
IsOther old t u after at other =
    IsGrown t u.items × (at ≤ length u.items) × (rest_at (rests_of u.items) at ≡ else_items other ++ rest_at (rests_of old) after)
    × (rests_of u.items ≡ rests_of t ++ else_rests other (rest_at (rests_of old) after))

if_other : (t : ℕ) (c : goal.add_item-In_ok-at-in-If t) → IsOther c.args.points.now.items c.add_seq.new.points.items c.match-other.points c.args.after c.match-other.otherwise (other_of c.in-If.other)
if_other t c =
    let old = c.args.points.now.items in
    let first = c.add_seq.new.points.items in
    elim c.match-other.branch [
      | add_item-in-Some+in_ok-otherwise-in-Some w ↦
          subst (λ u. IsOther old first u c.args.after c.match-other.otherwise (other_of c.in-If.other)) (sym w.points-is)
          (subst (λ at. IsOther old first w.add_seq-in-Some.new.points c.args.after at (other_of c.in-If.other)) (sym w.otherwise-is) (
            w.in_ok-otherwise-in-Some.ensures.grown,
            w.in_ok-otherwise-in-Some.ensures.place,
            w.in_ok-otherwise-in-Some.ensures.rest
                ∙ ap₂ ◌++◌ (ap (λ q. items (sequence q)) w.deref-in-Some.ensures ∙ sym (ap (λ o. else_items (other_of o)) w.in-Some.is)) (grown_rest old first c.args.after c.in_ok-inside-in-If.ensures.grown c.requires.known),
            w.in_ok-otherwise-in-Some.ensures.table
                ∙ ap (λ l. rests_of first ++ l) (ap₂ (λ q r. sequence_rests (sequence q) r) w.deref-in-Some.ensures (grown_rest old first c.args.after c.in_ok-inside-in-If.ensures.grown c.requires.known)
                ∙ sym (ap (λ o. else_rests (other_of o) (rest_at (rests_of old) c.args.after)) w.in-Some.is)),
          ))
      | add_item-in-None w ↦
          subst (λ u. IsOther old first u c.args.after c.match-other.otherwise (other_of c.in-If.other)) (sym w.points-is)
          (subst (λ at. IsOther old first c.add_seq.new.points c.args.after at (other_of c.in-If.other)) (sym w.otherwise-is) (
            grown_none first,
            le_both c.requires.known (grown_long old first c.in_ok-inside-in-If.ensures.grown),
            grown_rest old first c.args.after c.in_ok-inside-in-If.ensures.grown c.requires.known ∙ ap (λ o. else_items (other_of o) ++ rest_at (rests_of old) c.args.after) (sym w.in-None.is),
            sym (append-nil (rests_of first)) ∙ ap (λ o. rests_of first ++ else_rests (other_of o) (rest_at (rests_of old) c.args.after)) (sym w.in-None.is),
          ))
    ]

if_point : (t : ℕ) (c : goal.add_item-In_ok-at-in-If t) → Leads c.match-other.points.items (record { item = c.args.item; after = c.args.after; inside = c.in_ok-inside-in-If.inside; otherwise = c.match-other.otherwise })
if_point t c =
    let old = c.args.points.now.items in
    let other = if_other t c in
    if_leads old c.add_seq.new.points.items c.match-other.points.items
    (record { item = c.args.item; after = c.args.after; inside = c.in_ok-inside-in-If.inside; otherwise = c.match-other.otherwise })
    (formula c.in-If.field-0) (sequence c.in-If.branch.value) (other_of c.in-If.other) (ap statement c.in-If.is ∙ if_view c.in-If.field-0 c.in-If.branch c.in-If.other)
    c.in_ok-inside-in-If.ensures.grown other.0 c.requires.known c.in_ok-inside-in-If.ensures.place other.1
    (c.in_ok-inside-in-If.ensures.rest ∙ ap (λ q. items (sequence q) ++ rest_at (rests_of old) c.args.after) c.deref.ensures)
    other.2

pub add_item-returns-in_ok-at-in-Skip-clause-table : goal.add_item-returns-in_ok-at-in-Skip-clause-table
add_item-returns-in_ok-at-in-Skip-clause-table t c =
    let old = c.args.points.now.items in
    let item = c.args.item.now in
    let p : Point = record { item = c.args.item; after = c.args.after; inside = c.args.after; otherwise = c.args.after } in
    let rest : Rest = rest_at (rests_of old) c.args.after in
    let before = formula item.before.assertion in
    let same : (item_pair item ∷ rest) ∷ [] ≡ statement_rests before (statement item.stmt) rest =
    ⊎_elim (λ e. ap (λ s. ((before, statement s) ∷ rest) ∷ []) e ∙ sym (ap (λ s. statement_rests before (statement s) rest) e))
    (⊎_elim (λ e. ap (λ s. ((before, statement s) ∷ rest) ∷ []) e.2 ∙ sym (ap (λ s. statement_rests before (statement s) rest) e.2))
    (λ e. ap (λ s. ((before, statement s) ∷ rest) ∷ []) e.2 ∙ sym (ap (λ s. statement_rests before (statement s) rest) e.2))) c.in-Skip.is in
    ap rests_of (c.in_ok-at-in-Skip.ensures.points ∙ ap (λ q. old ++ q ∷ []) c.new-in-Skip.ensures) ∙ push_table old p ∙ ap (λ l. rests_of old ++ l) same

pub add_item-returns-in_ok-at-in-If-clause-grown : goal.add_item-returns-in_ok-at-in-If-clause-grown
add_item-returns-in_ok-at-in-If-clause-grown t c =
    let u = c.match-other.points.items in
    let p : Point = record { item = c.args.item; after = c.args.after; inside = c.in_ok-inside-in-If.inside; otherwise = c.match-other.otherwise } in
    grown_both c.args.points.now.items u c.push.new.points.items
    (grown_both c.args.points.now.items c.add_seq.new.points.items u c.in_ok-inside-in-If.ensures.grown (if_other t c).0)
    (subst (IsGrown u) (sym c.in_ok-at-in-If.ensures.points) (grown_push u p (if_point t c)))

pub add_item-returns-in_ok-at-in-If-clause-rest : goal.add_item-returns-in_ok-at-in-If-clause-rest
add_item-returns-in_ok-at-in-If-clause-rest t c =
    let old = c.args.points.now.items in
    let u = c.match-other.points.items in
    let p : Point = record { item = c.args.item; after = c.args.after; inside = c.in_ok-inside-in-If.inside; otherwise = c.match-other.otherwise } in
    let e = c.in_ok-at-in-If.ensures.points in
    ap₂ (λ l k. rest_at (rests_of l) k) e (c.in_ok-at-in-If.ensures.last ∙ ap length e) ∙ push_rest u p
    ∙ ap (λ r. item_pair c.args.item.now ∷ r) (grown_rest old u c.args.after (grown_both old c.add_seq.new.points.items u c.in_ok-inside-in-If.ensures.grown (if_other t c).0) c.requires.known)

pub add_item-returns-in_ok-at-in-If-clause-table : goal.add_item-returns-in_ok-at-in-If-clause-table
add_item-returns-in_ok-at-in-If-clause-table t c =
    let old = c.args.points.now.items in
    let first = c.add_seq.new.points.items in
    let u = c.match-other.points.items in
    let item = c.args.item.now in
    let rest : Rest = rest_at (rests_of old) c.args.after in
    let p : Point = record { item = c.args.item; after = c.args.after; inside = c.in_ok-inside-in-If.inside; otherwise = c.match-other.otherwise } in
    let view : statement item.stmt ≡ If (formula c.in-If.field-0) (sequence c.in-If.branch.value) (other_of c.in-If.other) = ap statement c.in-If.is ∙ if_view c.in-If.field-0 c.in-If.branch c.in-If.other in
    let kept : rest_at (rests_of u) c.args.after ≡ rest = grown_rest old u c.args.after (grown_both old first u c.in_ok-inside-in-If.ensures.grown (if_other t c).0) c.requires.known in
    let branch : rests_of first ≡ rests_of old ++ sequence_rests (sequence c.in-If.branch.value) rest =
    c.in_ok-inside-in-If.ensures.table ∙ ap (λ q. rests_of old ++ sequence_rests (sequence q) rest) c.deref.ensures in
    let pushed : rests_of c.push.new.points.items ≡ rests_of u ++ (item_pair item ∷ rest) ∷ [] =
    ap rests_of c.in_ok-at-in-If.ensures.points ∙ push_table u p ∙ ap (λ r. rests_of u ++ (item_pair item ∷ r) ∷ []) kept in
    then_more (rests_of old) (rests_of first) (rests_of c.push.new.points.items) (sequence_rests (sequence c.in-If.branch.value) rest) (else_rests (other_of c.in-If.other) rest ++ (item_pair item ∷ rest) ∷ []) branch
    (then_more (rests_of first) (rests_of u) (rests_of c.push.new.points.items) (else_rests (other_of c.in-If.other) rest) ((item_pair item ∷ rest) ∷ []) (if_other t c).3 pushed)
    ∙ ap (λ s. rests_of old ++ (sequence_rests (sequence c.in-If.branch.value) rest ++ (else_rests (other_of c.in-If.other) rest ++ ((formula item.before.assertion, s) ∷ rest) ∷ []))) view
    ∙ sym (ap (λ s. rests_of old ++ statement_rests (formula item.before.assertion) s rest) view)

-- the loop's point, and the table with it
abbrev loop_point : (t : ℕ) (c : goal.add_item-After-points-1 t) → Point
loop_point t c = record { item = c.args.item; after = c.args.after; inside = c.args.after; otherwise = c.args.after }

loop_table : (t : ℕ) (c : goal.add_item-After-points-1 t) → c.push-in-While.new.points.items ≡ c.args.points.now.items ++ loop_point t c ∷ []
loop_table t c = c.in_ok-at-in-While.ensures.points ∙ ap (λ q. c.args.points.now.items ++ q ∷ []) c.new.ensures

loop_grown : (t : ℕ) (c : goal.add_item-After-points-1 t) → IsGrown (c.args.points.now.items ++ loop_point t c ∷ []) c.add_seq-in-While.new.points.items
loop_grown t c = subst (λ l. IsGrown l c.add_seq-in-While.new.points.items) (loop_table t c) c.in_ok-inside-in-While.ensures.grown

-- which point is set, and to which
loop_set : (t : ℕ) (c : goal.add_item-After-points-1 t) → slice_set c.add_seq-in-While.new.points.items (c.in_ok-at-in-While.at - 1) (with_inside c.index_mut.result.now c.in_ok-inside-in-While.inside) ≡ set c.add_seq-in-While.new.points.items (length c.args.points.now.items) (with_inside (loop_point t c) c.in_ok-inside-in-While.inside)
loop_set t c =
    let old = c.args.points.now.items in
    let u = c.add_seq-in-While.new.points.items in
    let at = c.in_ok-at-in-While.ensures.last ∙ ap length (loop_table t c) in
    let long = length-append old (loop_point t c ∷ []) in
    let i : c.in_ok-at-in-While.at - 1 ≡ length old = omega (arith, at, long) in
    let there : c.index_mut.result.now ≡ loop_point t c =
    c.index_mut.ensures.value ∙ ap (λ i. get_or u i c.index_mut.result.now) i
    ∙ get_or_from_slice_get u (length old) (loop_point t c) c.index_mut.result.now (set_at old (loop_point t c) u c.in_ok-inside-in-While.inside (loop_grown t c)) in
    ap₂ (λ i p. set u i (with_inside p c.in_ok-inside-in-While.inside)) i there

pub add_item-returns-in_ok-inside-in-While-clause-grown : goal.add_item-returns-in_ok-inside-in-While-clause-grown
add_item-returns-in_ok-inside-in-While-clause-grown t c =
    let old = c.args.points.now.items in
    let u = c.add_seq-in-While.new.points.items in
    let p = loop_point t c in
    let x = c.in_ok-inside-in-While.inside in
    subst (IsGrown old) (sym (loop_set t c)) (set_grown old p u x (loop_grown t c)
    (loop_linked old u p x (formula c.in-While.field-0) (sequence c.in-While.body.value) (ap statement c.in-While.is) (loop_grown t c) c.requires.known refl c.in_ok-inside-in-While.ensures.place
    (c.in_ok-inside-in-While.ensures.rest ∙ ap₂ (λ q r. items (sequence q) ++ r) c.deref-in-While.ensures (ap₂ (λ l k. rest_at (rests_of l) k) (loop_table t c) (c.in_ok-at-in-While.ensures.last ∙ ap length (loop_table t c))))))

pub add_item-returns-in_ok-inside-in-While-clause-rest : goal.add_item-returns-in_ok-inside-in-While-clause-rest
add_item-returns-in_ok-inside-in-While-clause-rest t c =
    let old = c.args.points.now.items in
    let u = c.add_seq-in-While.new.points.items in
    let p = loop_point t c in
    let x = c.in_ok-inside-in-While.inside in
    let at : c.in_ok-at-in-While.at ≡ length (old ++ p ∷ []) = c.in_ok-at-in-While.ensures.last ∙ ap length (loop_table t c) in
    let long = length-append old (p ∷ []) in
    ap₂ (λ l k. rest_at (rests_of l) k) (loop_set t c) at
    ∙ ap (λ all. rest_at all (length (old ++ p ∷ []))) (set_rests old p u x (loop_grown t c))
    ∙ grown_rest (old ++ p ∷ []) u (length (old ++ p ∷ [])) (loop_grown t c) (omega arith)
    ∙ push_rest old p

pub add_item-returns-in_ok-inside-in-While-clause-table : goal.add_item-returns-in_ok-inside-in-While-clause-table
add_item-returns-in_ok-inside-in-While-clause-table t c =
    let old = c.args.points.now.items in
    let u = c.add_seq-in-While.new.points.items in
    let item = c.args.item.now in
    let p = loop_point t c in
    let rest : Rest = rest_at (rests_of old) c.args.after in
    let at : c.in_ok-at-in-While.at ≡ length (old ++ p ∷ []) = c.in_ok-at-in-While.ensures.last ∙ ap length (loop_table t c) in
    let body = sequence c.in-While.body.value in
    let pushed : rests_of c.push-in-While.new.points.items ≡ rests_of old ++ (item_pair item ∷ rest) ∷ [] = ap rests_of (loop_table t c) ∙ push_table old p in
    let here : rest_at (rests_of c.push-in-While.new.points.items) c.in_ok-at-in-While.at ≡ item_pair item ∷ rest = ap₂ (λ l k. rest_at (rests_of l) k) (loop_table t c) at ∙ push_rest old p in
    let inside : rests_of u ≡ rests_of c.push-in-While.new.points.items ++ sequence_rests body (item_pair item ∷ rest) =
    c.in_ok-inside-in-While.ensures.table ∙ ap₂ (λ q r. rests_of c.push-in-While.new.points.items ++ sequence_rests (sequence q) r) c.deref-in-While.ensures here in
    let view : statement item.stmt ≡ While (formula c.in-While.field-0) body = ap statement c.in-While.is in
    ap rests_of (loop_set t c)
    ∙ set_rests old p u c.in_ok-inside-in-While.inside (loop_grown t c)
    ∙ then_more (rests_of old) (rests_of c.push-in-While.new.points.items) (rests_of u) ((item_pair item ∷ rest) ∷ []) (sequence_rests body (item_pair item ∷ rest)) pushed inside
    ∙ ap (λ s. rests_of old ++ ((formula item.before.assertion, s) ∷ rest) ∷ sequence_rests body ((formula item.before.assertion, s) ∷ rest)) view
    ∙ sym (ap (λ s. rests_of old ++ statement_rests (formula item.before.assertion) s rest) view)

pub add_seq-loop-left-init : goal.add_seq-loop-left-init
add_seq-loop-left-init t c = record {
  bound = search rules;
  grown = grown_none c.args.points.now.items;
  known = c.requires.known;
  rest = ap (λ l. map item_pair l ++ rest_at (rests_of c.args.points.now.items) c.args.after) (sym (drop_of_length-le (out-Seq c.args.seq.now).items.items (search rules)));
  table = sym (append-nil (rests_of c.args.points.now.items))
      ∙ ap (λ l. rests_of c.args.points.now.items ++ list_rests (map item_pair l) (rest_at (rests_of c.args.points.now.items) c.args.after)) (sym (drop_of_length-le (out-Seq c.args.seq.now).items.items (search rules)));
}

pub add_seq-loop-left-preserved : goal.add_seq-loop-left-preserved
add_seq-loop-left-preserved t c =
    let left = c.loop-left.left in
    let old = c.args.points.now.items in
    let l = (out-Seq c.args.seq.now).items.items in
    let some : 0 < left = c.loop-left-test.true in
    let few = c.loop-left.invariant.bound in
    let before : left - 1 + 1 ≡ left = omega (arith, some) in
    let here : drop (left - 1) l ≡ c.index.result.now ∷ drop left l =
    drop_more l (left - 1) c.index.result.now (omega (arith, some, few))
    ∙ ap₂ ◌∷◌ (sym c.index.ensures) (ap (λ n. drop n l) before) in record {
      bound = omega (arith, few);
      grown = grown_both old c.loop-left.points.items c.add_item.new.points.items c.loop-left.invariant.grown c.in_ok-at.ensures.grown;
      known = c.in_ok-at.ensures.place;
      rest = c.in_ok-at.ensures.rest
          ∙ ap (λ r. item_pair c.index.result.now ∷ r) c.loop-left.invariant.rest
          ∙ ap (λ l. map item_pair l ++ rest_at (rests_of old) c.args.after) (sym here);
      table = then_more (rests_of old) (rests_of c.loop-left.points.items) (rests_of c.add_item.new.points.items) _ _ c.loop-left.invariant.table
          (c.in_ok-at.ensures.table ∙ ap (λ r. rests_of c.loop-left.points.items ++ statement_rests (item_pair c.index.result.now).0 (item_pair c.index.result.now).1 r) c.loop-left.invariant.rest)
          ∙ ap (λ l. rests_of old ++ list_rests (map item_pair l) (rest_at (rests_of old) c.args.after)) (sym here);
    }

pub add_seq-returns-clause-rest : goal.add_seq-returns-clause-rest
add_seq-returns-clause-rest t c =
    let left = c.loop-left.left in
    let le : left ≤ 0 = c.loop-left-test.false in
    let none : left ≡ 0 = omega (arith, le) in
    c.loop-left.invariant.rest
    ∙ ap (λ n. map item_pair (drop n (out-Seq c.args.seq.now).items.items) ++ rest_at (rests_of c.args.points.now.items) c.args.after) none
    ∙ ap (λ l. l ++ rest_at (rests_of c.args.points.now.items) c.args.after) (sym (items_out c.args.seq.now))

pub add_seq-returns-clause-table : goal.add_seq-returns-clause-table
add_seq-returns-clause-table t c =
    let left = c.loop-left.left in
    let le : left ≤ 0 = c.loop-left-test.false in
    let none : left ≡ 0 = omega (arith, le) in
    let old = c.args.points.now.items in
    let after : Rest = rest_at (rests_of old) c.args.after in
    c.loop-left.invariant.table
    ∙ ap (λ n. rests_of old ++ list_rests (map item_pair (drop n (out-Seq c.args.seq.now).items.items)) after) none
    ∙ ap (λ l. rests_of old ++ list_rests l after) (sym (items_out c.args.seq.now))
    ∙ ap (λ l. rests_of old ++ l) (sym (sequence_list (sequence c.args.seq.now) after))
