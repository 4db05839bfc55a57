-- A sequence is printed item by item.
use Rattle.std.proofs.Common.{◌≡◌, ℕ, suc, ◌+◌, ◌-◌, ◌<◌, Bool, true, false, cond, eqb, List, [], ◌∷◌, ◌++◌, length, drop, get_or, map, arith, refl, sym, ap, subst, ◌∙◌, append_assoc, add-one, drop-cons, length-drop}
use Rattle.std.proofs.lemmas.Bool.Decides.{nat_tests}
use Rattle.og_parse.specs.declared.raw.RawItem.{RawItem}
use Rattle.og_parse.specs.declared.raw.RawStmt.TheFolds.{fold_out-RawItem}
use Rattle.og_parse.specs.Trees.{Note, Stmt, Seq, finish}
use Rattle.og_parse.specs.TreeOf.{Item, note_of, item_of, stmt_of, stmt_step, item_step, seq_step, items_then}
use Rattle.og_print.specs.Print.{written, note_in, stmt_in, ending_in, seq_in}

last_test : (i n rest : ℕ) → i < n → rest ≡ n - (i + 1) → eqb (i + 1) n ≡ eqb rest 0
last_test i n rest lt e = grind (arith, nat_tests)

some_test : (n : ℕ) → eqb (suc n) 0 ≡ false
some_test n = grind (arith, nat_tests)

-- what ends a statement depends on whether more items come
ending_before : (notes : Bool) (last : Note) (later : List RawItem) → cond notes [] (cond (eqb (length later) 0) [] (59 ∷ [])) ≡ ending_in written notes (items_then (map item_of later) (finish last))
ending_before true last [] = refl
ending_before false last [] = refl
ending_before true last (x ∷ xs) = refl
ending_before false last (x ∷ xs) = ap (λ (b : Bool). cond b [] (59 ∷ [])) (some_test (length xs))

item-before : (x : RawItem) → (item_of x).before ≡ note_of x.before
item-before x = ap (λ (i : Item). i.before) (fold_out-RawItem Stmt Item Seq stmt_step item_step seq_step x)

item-stmt : (x : RawItem) → (item_of x).stmt ≡ stmt_of x.stmt
item-stmt x = ap (λ (i : Item). i.stmt) (fold_out-RawItem Stmt Item Seq stmt_step item_step seq_step x)

two_more : (t0 t1 t2 n n' s s' rest whole : List ℕ) → t1 ≡ t0 ++ n → t2 ≡ t1 ++ s → n' ≡ n → s' ≡ s → t0 ++ (n' ++ (s' ++ rest)) ≡ whole → t2 ++ rest ≡ whole
two_more t0 t1 t2 n n' s s' rest whole e1 e2 en es e = rw (e2, e1, append_assoc, append_assoc, ← en, ← es) e

-- an item more
pub later_item : (notes : Bool) (indent : List ℕ) (items : List RawItem) (last : Note) (i : ℕ) (x : RawItem) (ending t0 t1 t2 whole : List ℕ)
    → i < length items → x ≡ get_or items i x
    → ending ≡ cond notes [] (cond (eqb (i + 1) (length items)) [] (59 ∷ []))
    → t1 ≡ t0 ++ note_in written notes indent (note_of x.before)
    → t2 ≡ t1 ++ stmt_in written notes indent (stmt_of x.stmt) ending
    → t0 ++ seq_in written notes indent (items_then (map item_of (drop i items)) (finish last)) ≡ whole
    → t2 ++ seq_in written notes indent (items_then (map item_of (drop (i + 1) items)) (finish last)) ≡ whole
later_item notes indent items last i x ending t0 t1 t2 whole lt is ending_is e1 e2 e =
    let later = drop (i + 1) items in
    let rest = items_then (map item_of later) (finish last) in
    let here : drop i items ≡ x ∷ later = rw add-one (drop-cons items i x lt ∙ ap (λ (y : RawItem). y ∷ drop (suc i) items) (sym is)) in
    let ending_same : ending ≡ ending_in written notes rest = ending_is ∙ ap (λ (b : Bool). cond notes [] (cond b [] (59 ∷ []))) (last_test i (length items) (length later) lt (length-drop (i + 1) items)) ∙ ending_before notes last later in
    let P : List RawItem → Type 0 = λ (xs : List RawItem). t0 ++ seq_in written notes indent (items_then (map item_of xs) (finish last)) ≡ whole in
    two_more t0 t1 t2
    (note_in written notes indent (note_of x.before)) (note_in written notes indent (item_of x).before)
    (stmt_in written notes indent (stmt_of x.stmt) ending) (stmt_in written notes indent (item_of x).stmt (ending_in written notes rest))
    (seq_in written notes indent rest) whole e1 e2
    (ap (λ (n : Note). note_in written notes indent n) (item-before x))
    (ap (λ (s : Stmt). stmt_in written notes indent s (ending_in written notes rest)) (item-stmt x) ∙ ap (λ (bs : List ℕ). stmt_in written notes indent (stmt_of x.stmt) bs) (sym ending_same))
    (subst P here e)
