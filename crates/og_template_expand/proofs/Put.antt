-- Loops that add steps to a sequence.
use Rattle.std.proofs.Common.{◌≡◌, ℕ, ◌+◌, ◌<◌, List, [], ◌∷◌, ◌++◌, Ok, Err, length, map, drop, get_or, refl, sym, subst, ap, ◌∙◌, ◌≤◌, length-append, arith}
use Rattle.og_text.specs.declared.place.Span.{Span}
use Rattle.og_template.specs.declared.fault.FaultKind.TheVariants.{NothingLeft}
use Rattle.og_parse.specs.Trees.{Step, Note, Seq, item, finish, sequence}
use Rattle.og_parse.specs.TreeOf.{Item, items_then}
use Rattle.og_template_expand.specs.declared.fault.Stop.{Stop}
use Rattle.og_template_expand.specs.declared.fault.Stop.TheVariants as stops
use Rattle.og_template_expand.specs.Answer.{Checked, ◌>>=◌, refused, gathered}
use Rattle.og_template_expand.specs.Put.{Front, with_steps, onto}
use Rattle.og_template_expand.specs.Scope.{Scope}
use Rattle.og_template_expand.specs.Scoped.{FailsAs}
use Rattle.og_template_expand.specs.Statements.{one_of, steps_of, sequence_with}
use Rattle.og_template_expand.specs.TreeOf.{steps_then}
use Rattle.og_template_expand.specs.Trees as template
use Rattle.og_template_expand.proofs.Lists.{then, drop_next}

pub with_steps-append : (front : Front) (xs ys : List Step) → with_steps front (xs ++ ys) ≡ with_steps (with_steps front xs) ys
with_steps-append front [] ys = refl
with_steps-append front (x ∷ xs) ys = with_steps-append (front.0 ++ record { before = front.1; place = x.stmt.place; stmt = x.stmt.value } ∷ [], x.after) xs ys

pub onto_then : (a b : Front) (x rest : Checked (List Step)) → onto a x ≡ Ok b → onto a (then x rest) ≡ onto b rest
onto_then a b (Ok xs) (Ok ys) h =
    let e : with_steps a xs ≡ b = cc in
    ap Ok (with_steps-append a xs ys ∙ ap (λ f. with_steps f ys) e)
onto_then a b (Ok xs) (Err d) h = refl
onto_then a b (Err d) rest h = cc

pub onto_fails : (e : Stop) (a : Front) (x rest : Checked (List Step)) → FailsAs e (onto a x) → FailsAs e (onto a (then x rest))
onto_fails stops.Memory a x rest h = tt
onto_fails (stops.Spent f) a x rest h = tt
onto_fails (stops.Fault f) a (Ok xs) rest h = cc
onto_fails (stops.Fault f) a (Err d) rest h = h

-- a turn of a loop over numbers
pub turn : {X : Type 0} (f : X → Checked (List Step)) (out new : Front) (xs : List X) (i : ℕ) (d x : X) (total : Checked Front) → i < length xs → x ≡ get_or xs i d → onto out (f x) ≡ Ok new → onto out (gathered f (drop i xs)) ≡ total → onto new (gathered f (drop (i + 1) xs)) ≡ total
turn f out new xs i d x total h is made inv =
    sym (onto_then out new (f x) (gathered f (drop (i + 1) xs)) made)
    ∙ ap (λ y. onto out (then (f y) (gathered f (drop (i + 1) xs)))) is
    ∙ ap (λ l. onto out (gathered f l)) (sym (drop_next xs i d h))
    ∙ inv

pub stops_at : {X : Type 0} (f : X → Checked (List Step)) (e : Stop) (out : Front) (xs : List X) (i : ℕ) (d x : X) (total : Checked Front) → i < length xs → x ≡ get_or xs i d → FailsAs e (onto out (f x)) → onto out (gathered f (drop i xs)) ≡ total → FailsAs e total
stops_at f e out xs i d x total h is fails inv =
    subst (FailsAs e) (ap (λ y. onto out (then (f y) (gathered f (drop (i + 1) xs)))) is ∙ ap (λ l. onto out (gathered f l)) (sym (drop_next xs i d h)) ∙ inv) (onto_fails e out (f x) (gathered f (drop (i + 1) xs)) fails)

-- a turn of a loop over steps
pub steps_turn : {R : Type 0} (scope : Scope) (tree : R → template.Step) (out new : Front) (all : List R) (i : ℕ) (x : R) (total : Checked Front) → i < length all → x ≡ get_or all i x → onto out (one_of scope (tree x)) ≡ Ok new → onto out (steps_of scope (steps_then (map tree (drop i all)))) ≡ total → onto new (steps_of scope (steps_then (map tree (drop (i + 1) all)))) ≡ total
steps_turn scope tree out new all i x total h is made inv =
    sym (onto_then out new (one_of scope (tree x)) (steps_of scope (steps_then (map tree (drop (i + 1) all)))) made)
    ∙ ap (λ y. onto out (then (one_of scope (tree y)) (steps_of scope (steps_then (map tree (drop (i + 1) all)))))) is
    ∙ ap (λ l. onto out (steps_of scope (steps_then (map tree l)))) (sym (drop_next all i x h))
    ∙ inv

-- ---- the end

abbrev pub one_more : Front → Step → Front
one_more front s = (front.0 ++ record { before = front.1; place = s.stmt.place; stmt = s.stmt.value } ∷ [], s.after)

longer : (front : Front) (steps : List Step) → length front.0 ≤ length (with_steps front steps).0
longer front [] = omega arith
longer front (s ∷ steps) = omega (arith, longer (one_more front s) steps, length-append front.0 (record { before = front.1; place = s.stmt.place; stmt = s.stmt.value } ∷ []))

items_then-push : (items : List Item) (i : Item) (rest : Seq) → items_then items (item i.before i.place i.stmt rest) ≡ items_then (items ++ i ∷ []) rest
items_then-push [] i rest = refl
items_then-push (j ∷ items) i rest = ap (item j.before j.place j.stmt) (items_then-push items i rest)

whole : (front : Front) (steps : List Step) → items_then front.0 (sequence front.1 steps) ≡ items_then (with_steps front steps).0 (finish (with_steps front steps).1)
whole front [] = refl
whole front (s ∷ steps) =
    items_then-push front.0 (record { before = front.1; place = s.stmt.place; stmt = s.stmt.value }) (sequence s.after steps) ∙ whole (one_more front s) steps

pub nothing_left : (place : Span) (before : Note) (x : Checked (List Step)) (items : List Item) (last : Note) → length items ≡ 0 → onto ([], before) x ≡ Ok (items, last) → (x >>= λ all. sequence_with place before all) ≡ refused NothingLeft place
nothing_left place before (Ok []) items last none h = refl
nothing_left place before (Ok (s ∷ steps)) items last none h =
    let e : (with_steps ([], before) (s ∷ steps)).0 ≡ items = cc in
    absurd (omega (arith, longer (one_more ([], before) s) steps, ap (length {A = Item}) e))
nothing_left place before (Err d) items last none h = cc

pub some_left : (place : Span) (before : Note) (x : Checked (List Step)) (items : List Item) (last : Note) → 0 < length items → onto ([], before) x ≡ Ok (items, last) → (x >>= λ all. sequence_with place before all) ≡ Ok (items_then items (finish last))
some_left place before (Ok []) items last some h =
    let front : Front = ([], before) in
    let e : front ≡ (items, last) = cc in
    absurd (omega (arith, ap (λ (f : Front). length f.0) e))
some_left place before (Ok (s ∷ steps)) items last some h =
    let e : with_steps ([], before) (s ∷ steps) ≡ (items, last) = cc in
    ap Ok (whole ([], before) (s ∷ steps) ∙ ap (λ (f : Front). items_then f.0 (finish f.1)) e)
some_left place before (Err d) items last some h = cc
