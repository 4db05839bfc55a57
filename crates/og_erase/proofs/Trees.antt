-- The loops that make a tree.
use Rattle.std.proofs.Common.{◌≡◌, ℕ, ◌+◌, ◌<◌, ◌≤◌, List, [], ◌∷◌, ◌++◌, map, length, drop, get_or, Bool, true, refl, Vec, Global, sym, ap, ap₂, ◌∙◌, subst, drop_of_length-le}
use Rattle.std.specs.List.{AllByRecursion}
use Rattle.std.proofs.lemmas.Bool.{and_parts}
use Rattle.std.proofs.lemmas.List.{map_push}
use Rattle.og_linear.specs.Linear.{FormValue}
use Rattle.og_parse.specs.declared.raw.RawAssert.{RawAssert}
use Rattle.og_parse.specs.declared.raw.RawAssert.TheViews as views
use Rattle.og_parse.specs.declared.raw.RawItem.{RawItem}
use Rattle.og_parse.specs.declared.raw.RawNote.{RawNote}
use Rattle.og_parse.specs.declared.raw.RawStmt.{RawStmt}
use Rattle.og_parse.specs.declared.raw.RawStmt.TheOpen.{RawStmt-F}
use Rattle.og_parse.specs.declared.raw.RawStmt as raws
use Rattle.og_parse.specs.declared.raw.RawElement.{RawElement}
use Rattle.og_parse.specs.declared.raw.RawStmt.TheFolds.{fold-roll-RawStmt, fold-roll-RawItem, fold-roll-RawSeq}
use Rattle.og_parse.specs.declared.raw.RawStmt.TheViews.{roll-RawItem, roll-RawSeq, rolls-Await}
use Rattle.og_parse.specs.Trees as tree
use Rattle.og_parse.specs.TreeOf as raw
use Rattle.og_typed.specs.declared.assertion.Assert.{Assert}
use Rattle.og_typed.specs.declared.assertion.Assert.TheViews as its
use Rattle.og_typed.specs.declared.statement.Basic.{Basic}
use Rattle.og_typed.specs.declared.statement.Item.{Item}
use Rattle.og_typed.specs.declared.statement.Stmt.{Stmt}
use Rattle.og_typed.specs.declared.statement.Stmt as stmts
use Rattle.og_typed.specs.Syntax.{Formula, And, Or, Noted}
use Rattle.og_typed.specs.Lists.{formula_list, sequence_list}
use Rattle.og_typed.specs.Plain.{formula, noted, simple, statement, item_of}
use Rattle.og_typed.specs.Rule.{IsUsable, IsUsableStatement, IsUsableSequence}
use Rattle.og_typed.specs.Forms.{each_form, each_form_in}
use Rattle.og_typed.proofs.Lists.{formula_and, formula_or}
use Rattle.og_typed.proofs.RawTrees.{tree_and, tree_or}
use Rattle.og_erase.specs.Collected as collected
use Rattle.og_erase.proofs.Turns.{drop_at}

-- ---- assertions

pub list_assertions : (names : List (List ℕ)) (all : List Formula) → collected.assertions names (formula_list all) ≡ tree.listed (map (collected.assertion names) all)
list_assertions names [] = refl
list_assertions names (a ∷ all) = ap (tree.more (collected.assertion names a)) (list_assertions names all)

-- the next assertion, and those after it
pub assert_here : (test : FormValue → Bool) (all : List Assert) (i : ℕ) (x : Assert) → i < length all → x ≡ get_or all i x → each_form_in test (formula_list (map formula (drop i all))) ≡ true
    → (each_form test (formula x) ≡ true) × (each_form_in test (formula_list (map formula (drop (i + 1) all))) ≡ true)
assert_here test all i x h is e =
    and_parts (each_form test (formula x)) (each_form_in test (formula_list (map formula (drop (i + 1) all))))
    (subst (λ l. each_form_in test (formula_list (map formula l)) ≡ true) (drop_at all i x h is) e)

-- a conjunction and a disjunction, by the items of their `Vec`
pub and_usable : (test : FormValue → Bool) (a : Assert) (v : Vec Assert Global) (all : List Assert) → a ≡ its.And v → all ≡ v.items → each_form test (formula a) ≡ true → each_form_in test (formula_list (map formula all)) ≡ true
and_usable test a v all is same e =
    ap (λ l. each_form_in test (formula_list (map formula l))) same ∙ ap (each_form test) (sym (formula_and v)) ∙ ap (λ x. each_form test (formula x)) (sym is) ∙ e

pub or_usable : (test : FormValue → Bool) (a : Assert) (v : Vec Assert Global) (all : List Assert) → a ≡ its.Or v → all ≡ v.items → each_form test (formula a) ≡ true → each_form_in test (formula_list (map formula all)) ≡ true
or_usable test a v all is same e =
    ap (λ l. each_form_in test (formula_list (map formula l))) same ∙ ap (each_form test) (sym (formula_or v)) ∙ ap (λ x. each_form test (formula x)) (sym is) ∙ e

pub and_made : (names : List (List ℕ)) (a : Assert) (v : Vec Assert Global) (all : List Assert) (out : Vec RawAssert Global) → a ≡ its.And v → all ≡ v.items
    → tree.listed (map raw.assertion_of out.items) ≡ collected.assertions names (formula_list (map formula all)) → raw.assertion_of (views.And out) ≡ collected.assertion names (formula a)
and_made names a v all out is same e =
    tree_and out
    ∙ ap tree.Conjunction e
    ∙ ap (λ l. collected.assertion names (And (formula_list (map formula l)))) same
    ∙ ap (collected.assertion names) (sym (formula_and v) ∙ ap formula (sym is))

pub or_made : (names : List (List ℕ)) (a : Assert) (v : Vec Assert Global) (all : List Assert) (out : Vec RawAssert Global) → a ≡ its.Or v → all ≡ v.items
    → tree.listed (map raw.assertion_of out.items) ≡ collected.assertions names (formula_list (map formula all)) → raw.assertion_of (views.Or out) ≡ collected.assertion names (formula a)
or_made names a v all out is same e =
    tree_or out
    ∙ ap tree.Disjunction e
    ∙ ap (λ l. collected.assertion names (Or (formula_list (map formula l)))) same
    ∙ ap (collected.assertion names) (sym (formula_or v) ∙ ap formula (sym is))

-- ---- statements

-- the next element, and those after it
pub each_here : {X Y : Type 0} (P : Y → Type 0) (f : X → Y) (all : List X) (i : ℕ) (x : X) → i < length all → x ≡ get_or all i x → AllByRecursion P (map f (drop i all)) → P (f x) × AllByRecursion P (map f (drop (i + 1) all))
each_here P f all i x h is e = subst (λ l. AllByRecursion P (map f l)) (drop_at all i x h is) e

-- the next item, and the sequence after it
pub item_here : (n : ℕ) (last : Noted) (all : List Item) (i : ℕ) (x : Item) → i < length all → x ≡ get_or all i x → IsUsableSequence n (sequence_list (map item_of (drop i all)) last)
    → IsUsable n (formula x.before.assertion) × IsUsableStatement n (statement x.stmt) × IsUsableSequence n (sequence_list (map item_of (drop (i + 1) all)) last)
item_here n last all i x h is e = subst (λ l. IsUsableSequence n (sequence_list (map item_of l) last)) (drop_at all i x h is) e

-- an await that is made
pub await_made : (names : List (List ℕ)) (stmt : Stmt) (b : Assert) (body : Vec Basic Global) (all : List Basic) (guard : RawAssert) (out : Vec RawElement Global) → stmt ≡ stmts.Await b body → all ≡ body.items → raw.assertion_of guard ≡ collected.assertion names (formula b)
    → map raw.element_of out.items ≡ map (λ s. collected.placed (collected.basic names s)) (map simple all) → raw.stmt_of (raws.Await guard out) ≡ collected.statement names (statement stmt)
await_made names stmt b body all guard out is same e f =
    (ap raw.stmt_of (sym (rolls-Await guard out)) ∙ fold-roll-RawStmt tree.Stmt raw.Item tree.Seq raw.stmt_step raw.item_step raw.seq_step (RawStmt-F.Await guard out))
    ∙ ap₂ tree.Await e (f ∙ ap (λ l. map (λ s. collected.placed (collected.basic names s)) (map simple l)) same)
    ∙ ap (λ s. collected.statement names (statement s)) (sym is)

-- an item that is made
pub item_made : (names : List (List ℕ)) (x : Item) (before : RawNote) (stmt : RawStmt) → raw.note_of before ≡ collected.note names (noted x.before) → raw.stmt_of stmt ≡ collected.statement names (statement x.stmt)
    → raw.item_of (roll-RawItem (record { before = before; stmt = stmt; span = collected.nowhere })) ≡ record { before = collected.note names (noted x.before); place = collected.nowhere; stmt = collected.statement names (statement x.stmt) }
item_made names x before stmt e f =
    fold-roll-RawItem tree.Stmt raw.Item tree.Seq raw.stmt_step raw.item_step raw.seq_step (record { before = before; stmt = stmt; span = collected.nowhere })
    ∙ (λ i. record { before = e i; place = collected.nowhere; stmt = f i })

-- a sequence that is made
pub seq_made : (items : Vec RawItem Global) (last : RawNote) → raw.seq_of (roll-RawSeq (record { items = items; last = last })) ≡ raw.items_then (map raw.item_of items.items) (tree.finish (raw.note_of last))
seq_made items last = fold-roll-RawSeq tree.Stmt raw.Item tree.Seq raw.stmt_step raw.item_step raw.seq_step (record { items = items; last = last })

items_then-push : (items : List raw.Item) (i : raw.Item) (rest : tree.Seq) → raw.items_then (items ++ i ∷ []) rest ≡ raw.items_then items (tree.item i.before i.place i.stmt rest)
items_then-push [] i rest = refl
items_then-push (j ∷ items) i rest = ap (tree.item j.before j.place j.stmt) (items_then-push items i rest)

-- the items made of a sequence, after those already made
abbrev pub made_of : List (List ℕ) → List RawItem → List Item → Noted → tree.Seq
made_of names out all last = raw.items_then (map raw.item_of out) (collected.sequence names (sequence_list (map item_of all) last))

-- one item more
pub item_turn : (names : List (List ℕ)) (last : Noted) (out new : List RawItem) (made : RawItem) (all : List Item) (i : ℕ) (x : Item) → i < length all → x ≡ get_or all i x → new ≡ out ++ made ∷ []
    → raw.item_of made ≡ record { before = collected.note names (noted x.before); place = collected.nowhere; stmt = collected.statement names (statement x.stmt) }
    → made_of names new (drop (i + 1) all) last ≡ made_of names out (drop i all) last
item_turn names last out new made all i x h is pushed same =
    let rest = collected.sequence names (sequence_list (map item_of (drop (i + 1) all)) last) in
    ap (λ l. raw.items_then l rest) (ap (map raw.item_of) pushed ∙ map_push raw.item_of out made)
    ∙ items_then-push (map raw.item_of out) (raw.item_of made) rest
    ∙ ap (λ (m : raw.Item). raw.items_then (map raw.item_of out) (tree.item m.before m.place m.stmt rest)) same
    ∙ ap (λ l. made_of names out l last) (sym (drop_at all i x h is))

pub items_end : (names : List (List ℕ)) (last : Noted) (out : List RawItem) (all : List Item) (i : ℕ) (total : tree.Seq) → length all ≤ i → made_of names out (drop i all) last ≡ total → raw.items_then (map raw.item_of out) (tree.finish (collected.note names last)) ≡ total
items_end names last out all i total h inv = ap (λ l. made_of names out l last) (sym (drop_of_length-le all h)) ∙ inv
