-- The loops that make a tree.
use Rattle.std.proofs.Common.{◌≡◌, ℕ, suc, ◌+◌, ◌<◌, ◌≤◌, List, [], ◌∷◌, ◌++◌, map, length, drop, get_or, Vec, Global, sym, refl, ap, ◌∙◌, drop-cons, add-one, drop_of_length-le}
use Rattle.std.proofs.lemmas.List.{map_push}
use Rattle.og_parse.specs.declared.raw.RawAssert.{RawAssert}
use Rattle.og_parse.specs.declared.raw.RawAssert.TheViews as views
use Rattle.og_parse.specs.declared.raw.RawItem.{RawItem}
use Rattle.og_parse.specs.declared.raw.RawNote.{RawNote}
use Rattle.og_parse.specs.declared.raw.RawStmt.{RawStmt}
use Rattle.og_parse.specs.declared.raw.RawStmt.TheFolds.{fold-roll-RawItem, fold-roll-RawSeq, fold_out-RawItem}
use Rattle.og_parse.specs.declared.raw.RawStmt.TheViews.{roll-RawItem, roll-RawSeq, out-RawItem}
use Rattle.og_parse.specs.Trees as tree
use Rattle.og_parse.specs.TreeOf as raw
use Rattle.og_typed.proofs.RawTrees.{tree_and, tree_or}
use Rattle.og_erase_readable.specs.Readable as wanted

pub drop_at : {X : Type 0} (all : List X) (i : ℕ) (x : X) → i < length all → x ≡ get_or all i x → drop i all ≡ x ∷ drop (i + 1) all
drop_at all i x h is =
    drop-cons all i x h ∙ ap (λ y. y ∷ drop (suc i) all) (sym is) ∙ ap (λ k. x ∷ drop k all) (sym (add-one i))

-- ---- assertions

pub list_readable : (all : List tree.Assertion) → wanted.readable_assertions (tree.listed all) ≡ tree.listed (map wanted.readable_assertion all)
list_readable [] = refl
list_readable (a ∷ all) = ap (tree.more (wanted.readable_assertion a)) (list_readable all)

-- a conjunction and a disjunction, by the items of their `Vec`
pub and_made : (a : RawAssert) (v : Vec RawAssert Global) (all : List RawAssert) (out : Vec RawAssert Global) → a ≡ views.And v → all ≡ v.items
    → tree.listed (map raw.assertion_of out.items) ≡ wanted.readable_assertions (tree.listed (map raw.assertion_of all)) → raw.assertion_of (views.And out) ≡ wanted.readable_assertion (raw.assertion_of a)
and_made a v all out is same e =
    tree_and out
    ∙ ap tree.Conjunction e
    ∙ ap (λ l. wanted.readable_assertion (tree.Conjunction (tree.listed (map raw.assertion_of l)))) same
    ∙ ap wanted.readable_assertion (sym (tree_and v) ∙ ap raw.assertion_of (sym is))

pub or_made : (a : RawAssert) (v : Vec RawAssert Global) (all : List RawAssert) (out : Vec RawAssert Global) → a ≡ views.Or v → all ≡ v.items
    → tree.listed (map raw.assertion_of out.items) ≡ wanted.readable_assertions (tree.listed (map raw.assertion_of all)) → raw.assertion_of (views.Or out) ≡ wanted.readable_assertion (raw.assertion_of a)
or_made a v all out is same e =
    tree_or out
    ∙ ap tree.Disjunction e
    ∙ ap (λ l. wanted.readable_assertion (tree.Disjunction (tree.listed (map raw.assertion_of l)))) same
    ∙ ap wanted.readable_assertion (sym (tree_or v) ∙ ap raw.assertion_of (sym is))

-- ---- sequences

-- an item that is made
pub item_made : (x : RawItem) (before : RawNote) (stmt : RawStmt) → raw.note_of before ≡ wanted.readable_note (raw.note_of (out-RawItem x).before) → raw.stmt_of stmt ≡ wanted.readable_stmt (raw.stmt_of (out-RawItem x).stmt)
    → raw.item_of (roll-RawItem (record { before = before; stmt = stmt; span = (out-RawItem x).span })) ≡ record { before = wanted.readable_note (raw.item_of x).before; place = (raw.item_of x).place; stmt = wanted.readable_stmt (raw.item_of x).stmt }
item_made x before stmt e f =
    let there = fold_out-RawItem tree.Stmt raw.Item tree.Seq raw.stmt_step raw.item_step raw.seq_step x in
    let made : raw.Item → raw.Item = λ (i : raw.Item). record { before = wanted.readable_note i.before; place = i.place; stmt = wanted.readable_stmt i.stmt } in
    fold-roll-RawItem tree.Stmt raw.Item tree.Seq raw.stmt_step raw.item_step raw.seq_step (record { before = before; stmt = stmt; span = (out-RawItem x).span })
    ∙ (λ i. record { before = e i; place = (out-RawItem x).span; stmt = f i })
    ∙ ap made (sym there)

-- a sequence that is made
pub seq_made : (items : Vec RawItem Global) (last : RawNote) → raw.seq_of (roll-RawSeq (record { items = items; last = last })) ≡ raw.items_then (map raw.item_of items.items) (tree.finish (raw.note_of last))
seq_made items last = fold-roll-RawSeq tree.Stmt raw.Item tree.Seq raw.stmt_step raw.item_step raw.seq_step (record { items = items; last = last })

items_then-push : (items : List raw.Item) (i : raw.Item) (rest : tree.Seq) → raw.items_then (items ++ i ∷ []) rest ≡ raw.items_then items (tree.item i.before i.place i.stmt rest)
items_then-push [] i rest = refl
items_then-push (j ∷ items) i rest = ap (tree.item j.before j.place j.stmt) (items_then-push items i rest)

-- the relations made of items, after those already made
abbrev pub made_of : List RawItem → List RawItem → tree.Note → tree.Seq
made_of out all last = raw.items_then (map raw.item_of out) (wanted.readable_seq (raw.items_then (map raw.item_of all) (tree.finish last)))

-- one item more
pub item_turn : (last : tree.Note) (out new : List RawItem) (made : RawItem) (all : List RawItem) (i : ℕ) (x : RawItem) → i < length all → x ≡ get_or all i x → new ≡ out ++ made ∷ []
    → raw.item_of made ≡ record { before = wanted.readable_note (raw.item_of x).before; place = (raw.item_of x).place; stmt = wanted.readable_stmt (raw.item_of x).stmt }
    → made_of new (drop (i + 1) all) last ≡ made_of out (drop i all) last
item_turn last out new made all i x h is pushed same =
    let rest = wanted.readable_seq (raw.items_then (map raw.item_of (drop (i + 1) all)) (tree.finish last)) in
    ap (λ l. raw.items_then l rest) (ap (map raw.item_of) pushed ∙ map_push raw.item_of out made)
    ∙ items_then-push (map raw.item_of out) (raw.item_of made) rest
    ∙ ap (λ (m : raw.Item). raw.items_then (map raw.item_of out) (tree.item m.before m.place m.stmt rest)) same
    ∙ ap (λ l. made_of out l last) (sym (drop_at all i x h is))

pub items_end : (last : tree.Note) (out : List RawItem) (all : List RawItem) (i : ℕ) (total : tree.Seq) → length all ≤ i → made_of out (drop i all) last ≡ total → raw.items_then (map raw.item_of out) (tree.finish (wanted.readable_note last)) ≡ total
items_end last out all i total h inv = ap (λ l. made_of out l last) (sym (drop_of_length-le all h)) ∙ inv
