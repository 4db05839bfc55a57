use Rattle.std.proofs.Common.{◌≡◌, ◌≤◌, ◌+◌, ◌++◌, ◌∷◌, [], map, take, length, append-nil, sym, ap, ap₂, ◌∙◌, subst}
use Rattle.std.specs.List.{AllByRecursion}
use Rattle.std.proofs.lemmas.List.{map_push, take_all, take_more}
use Rattle.og_typed.specs.Plain.{sequence}
use Rattle.og_typed.specs.Syntax.{items}
use Rattle.og_typed.proofs.Each.{each_append}
use Rattle.og_typed.specs.Points.{rest_at, sequence_rests, parts_rests}
use Rattle.og_typed.specs.Table.{rests_of}
use Rattle.og_typed.proofs.Tables.{of_end, grown_none, grown_both, grown_rests, grown_places, parts_more, then_more}
use Rattle.og_typed.proofs.points.add_parts.Goals as goal

pub loop-seq-init : goal.loop-seq-init
loop-seq-init c = record {
  grown = grown_none c.args.points.now.items;
  places = subst (AllByRecursion (λ at. at ≤ length c.args.points.now.items)) (sym c.new-all.ensures.items) tt;
  rests = ap (map (rest_at (rests_of c.args.points.now.items))) c.new-all.ensures.items;
  table = sym (append-nil (rests_of c.args.points.now.items));
}

pub loop-seq-preserved : goal.loop-seq-preserved
loop-seq-preserved c =
    let old = c.loop-seq.points.items in
    let new = c.add_seq.new.points.items in
    let all = c.loop-seq.all.items in
    let i = c.loop-seq.seq-index in
    let parts = c.args.parts.now in
    let seq = c.seq-item.result in
    let at = c.in_ok-at.at in
    let taken : take (i + 1) parts ≡ take i parts ++ seq ∷ [] =
    take_more parts i seq c.loop-seq-test.true ∙ ap (λ q. take i parts ++ q ∷ []) (sym c.seq-item.is) in
    let begins : rest_at (rests_of new) at ≡ items (sequence seq) =
    c.in_ok-at.ensures.rest ∙ ap (λ r. items (sequence seq) ++ r) (of_end old) ∙ append-nil (items (sequence seq)) in record {
      grown = grown_both c.args.points.now.items old new c.loop-seq.invariant.grown c.in_ok-at.ensures.grown;
      places = subst (AllByRecursion (λ at. at ≤ length new)) (sym c.in_ok-push.ensures.items)
          (each_append _ all (at ∷ []) (grown_places old new all c.in_ok-at.ensures.grown c.loop-seq.invariant.places) (c.in_ok-at.ensures.place, tt));
      rests = ap (map (rest_at (rests_of new))) c.in_ok-push.ensures.items
          ∙ map_push (rest_at (rests_of new)) all at
          ∙ ap₂ (λ l r. l ++ r ∷ []) (grown_rests old new all c.in_ok-at.ensures.grown c.loop-seq.invariant.places ∙ c.loop-seq.invariant.rests) begins
          ∙ sym (ap (λ l. map items (map sequence l)) taken
          ∙ ap (map items) (map_push sequence (take i parts) seq)
          ∙ map_push items (map sequence (take i parts)) (sequence seq));
      table = then_more (rests_of c.args.points.now.items) (rests_of old) (rests_of new) _ _ c.loop-seq.invariant.table
          (c.in_ok-at.ensures.table ∙ ap (λ r. rests_of old ++ sequence_rests (sequence seq) r) (of_end old))
          ∙ ap (λ l. rests_of c.args.points.now.items ++ l)
          (sym (ap (λ l. parts_rests (map sequence l)) taken
          ∙ ap parts_rests (map_push sequence (take i parts) seq)
          ∙ parts_more (map sequence (take i parts)) (sequence seq)));
    }

pub returns-clause-rests : goal.returns-clause-rests
returns-clause-rests c =
    c.loop-seq.invariant.rests
    ∙ ap (λ l. map items (map sequence l)) (take_all c.loop-seq.seq-index c.args.parts.now c.loop-seq-test.false)

pub returns-clause-table : goal.returns-clause-table
returns-clause-table c =
    c.loop-seq.invariant.table
    ∙ ap (λ l. rests_of c.args.points.now.items ++ parts_rests (map sequence l)) (take_all c.loop-seq.seq-index c.args.parts.now c.loop-seq-test.false)
