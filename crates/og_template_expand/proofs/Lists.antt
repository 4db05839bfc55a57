-- Loops that add to a list.
use Rattle.std.proofs.Common.{◌≡◌, ℕ, ◌+◌, ◌<◌, length, map, drop, get_or, subst, drop-cons, add-one, List, ◌∷◌, ◌++◌, Ok, Err, refl, sym, ap, ◌∙◌, append_assoc}
use Rattle.og_template_expand.specs.declared.fault.Stop.{Stop}
use Rattle.og_template_expand.specs.declared.fault.Stop.TheVariants as stops
use Rattle.og_template_expand.specs.Answer.{Checked, ◌>>=◌, behind, gathered}
use Rattle.og_template_expand.specs.Scoped.{FailsAs, IsExpanded}

-- what one part gives, and then the others
abbrev pub then : {Y : Type 0} → Checked (List Y) → Checked (List Y) → Checked (List Y)
then x rest = x >>= λ ys. rest >>= λ zs. Ok (ys ++ zs)

pub behind_then : {Y : Type 0} (a b : List Y) (x rest : Checked (List Y)) → behind a x ≡ Ok b → behind a (then x rest) ≡ behind b rest
behind_then a b (Ok ys) (Ok zs) h =
    let e : a ++ ys ≡ b = cc in
    ap Ok (sym (append_assoc a ys zs) ∙ ap (λ l. l ++ zs) e)
behind_then a b (Ok ys) (Err d) h = refl
behind_then a b (Err d) rest h = cc

pub behind_fails : {Y : Type 0} (e : Stop) (a : List Y) (x rest : Checked (List Y)) → FailsAs e (behind a x) → FailsAs e (behind a (then x rest))
behind_fails stops.Memory a x rest h = tt
behind_fails (stops.Spent f) a x rest h = tt
behind_fails (stops.Fault f) a (Ok ys) rest h = cc
behind_fails (stops.Fault f) a (Err d) rest h = h

pub drop_next : {X : Type 0} (xs : List X) (i : ℕ) (d : X) → i < length xs → drop i xs ≡ get_or xs i d ∷ drop (i + 1) xs
drop_next xs i d h = drop-cons xs i d h ∙ ap (λ k. get_or xs i d ∷ drop k xs) (sym (add-one i))

-- a turn of a loop over numbers or parts
pub gathered_turn : {X Y : Type 0} (f : X → Checked (List Y)) (out new : List Y) (xs : List X) (i : ℕ) (d x : X) (total : Checked (List Y)) → i < length xs → x ≡ get_or xs i d → behind out (f x) ≡ Ok new → behind out (gathered f (drop i xs)) ≡ total → behind new (gathered f (drop (i + 1) xs)) ≡ total
gathered_turn f out new xs i d x total h is made inv =
    sym (behind_then out new (f x) (gathered f (drop (i + 1) xs)) made)
    ∙ ap (λ y. behind out (then (f y) (gathered f (drop (i + 1) xs)))) is
    ∙ ap (λ l. behind out (gathered f l)) (sym (drop_next xs i d h))
    ∙ inv

-- a turn that fails
pub gathered_stops : {X Y : Type 0} (f : X → Checked (List Y)) (e : Stop) (out : List Y) (xs : List X) (i : ℕ) (d x : X) (total : Checked (List Y)) → i < length xs → x ≡ get_or xs i d → FailsAs e (behind out (f x)) → behind out (gathered f (drop i xs)) ≡ total → FailsAs e total
gathered_stops f e out xs i d x total h is fails inv =
    subst (FailsAs e) (ap (λ y. behind out (then (f y) (gathered f (drop (i + 1) xs)))) is ∙ ap (λ l. behind out (gathered f l)) (sym (drop_next xs i d h)) ∙ inv) (behind_fails e out (f x) (gathered f (drop (i + 1) xs)) fails)

-- an error of a part is one of the whole
pub failed : {X Z : Type 0} (view : X → Z) (e d : Stop) (whole : Checked Z) → d ≡ e → FailsAs e whole → IsExpanded view (Err d) whole
failed view e d whole same h = subst (λ x. FailsAs x whole) (sym same) h

pub fails_then : {A B : Type 0} (e : Stop) (x : Checked A) (next : A → Checked B) → FailsAs e x → FailsAs e (x >>= next)
fails_then stops.Memory x next h = tt
fails_then (stops.Spent f) x next h = tt
fails_then (stops.Fault f) (Ok y) next h = cc
fails_then (stops.Fault f) (Err d) next h = cc

-- a turn of a loop over parts, each with its tree
pub parts_turn : {R X Y : Type 0} (f : X → Checked (List Y)) (tree : R → X) (out new : List Y) (all : List R) (i : ℕ) (x : R) (total : Checked (List Y)) → i < length all → x ≡ get_or all i x → behind out (f (tree x)) ≡ Ok new → behind out (gathered f (map tree (drop i all))) ≡ total → behind new (gathered f (map tree (drop (i + 1) all))) ≡ total
parts_turn f tree out new all i x total h is made inv =
    sym (behind_then out new (f (tree x)) (gathered f (map tree (drop (i + 1) all))) made)
    ∙ ap (λ y. behind out (then (f (tree y)) (gathered f (map tree (drop (i + 1) all))))) is
    ∙ ap (λ l. behind out (gathered f (map tree l))) (sym (drop_next all i x h))
    ∙ inv
