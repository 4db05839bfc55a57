-- Texts that are added one after another.
use Rattle.std.proofs.Common.{◌≡◌, ◌∙◌, ◌++◌, ◌<◌, ℕ, ◌+◌, List, map, drop, length, get_or, sym, ap, append_assoc}
use Rattle.std.specs.Prelude.{Result, Ok, Err, OnOk, is_ok, if◌then◌else◌, flat_map}
use Rattle.std.proofs.lemmas.List.{drop_more}

-- what a call adds where it has an answer
pub when_ok : {X E : Type 0} (r : Result X E) (old new tail : List ℕ) → new ≡ (if is_ok r then old ++ tail else old) → OnOk r (new ≡ old ++ tail)
when_ok (Ok x) old new tail h = h
when_ok (Err error) old new tail h = tt

-- elements that are added one after another
pub added_then : {X Y E : Type 0} (r : Result X E) (old mid new a tail : List Y) → mid ≡ old ++ a → OnOk r (new ≡ mid ++ tail) → OnOk r (new ≡ old ++ (a ++ tail))
added_then (Ok x) old mid new a tail e h = h ∙ ap (λ l. l ++ tail) e ∙ append_assoc old a tail
added_then (Err error) old mid new a tail e h = h

-- the lines of one more element
pub element_more : {X Y : Type 0} (g : X → Y) (f : Y → List ℕ) (xs : List X) (i : ℕ) (x : X) (before after whole : List ℕ) → i < length xs → x ≡ get_or xs i x → after ≡ before ++ f (g x) → before ++ flat_map f (map g (drop i xs)) ≡ whole
    → after ++ flat_map f (map g (drop (i + 1) xs)) ≡ whole
element_more {X = X} g f xs i x before after whole lt is made e =
    let later = flat_map f (map g (drop (i + 1) xs)) in
    let here : flat_map f (map g (drop i xs)) ≡ f (g (get_or xs i x)) ++ later = ap (λ (l : List X). flat_map f (map g l)) (drop_more xs i x lt) in
    ap (λ (l : List ℕ). l ++ later) (made ∙ ap (λ (z : X). before ++ f (g z)) is)
    ∙ (append_assoc before (f (g (get_or xs i x))) later ∙ (ap (λ (l : List ℕ). before ++ l) (sym here) ∙ e))

-- a line by three lists that are known
pub by_known : (line : List ℕ → List ℕ → List ℕ → List ℕ) (before after a b c x y z : List ℕ) → after ≡ before ++ line a b c → a ≡ x → b ≡ y → c ≡ z → after ≡ before ++ line x y z
by_known line before after a b c x y z made e f g =
    made ∙ (ap (λ (l : List ℕ). before ++ line l b c) e ∙ (ap (λ (l : List ℕ). before ++ line x l c) f ∙ ap (λ (l : List ℕ). before ++ line x y l) g))
