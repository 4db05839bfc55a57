-- Values of the members of a list, one after another.
use Rattle.std.proofs.Common.{◌≡◌, ◌∙◌, ℕ, ◌+◌, ◌<◌, List, [], ◌∷◌, ◌++◌, map, drop, length, get_or, sym, ap, append_assoc}
use Rattle.std.proofs.lemmas.List.{drop_more, map-append}

-- one more is pushed
pub mapped_more : {X Y Z : Type 0} (g : Z → Y) (f : X → Y) (xs : List X) (i : ℕ) (x : X) (before after : List Z) (pushed : Z) (whole : List Y) → i < length xs → x ≡ get_or xs i x → after ≡ before ++ pushed ∷ [] → g pushed ≡ f x
    → map g before ++ map f (drop i xs) ≡ whole → map g after ++ map f (drop (i + 1) xs) ≡ whole
mapped_more {X = X} {Y = Y} g f xs i x before after pushed whole lt is items value so_far =
    let later = map f (drop (i + 1) xs) in
    let this = f (get_or xs i x) in
    let here : map f (drop i xs) ≡ this ∷ later = ap (λ (l : List X). map f l) (drop_more xs i x lt) in
    let made : map g after ≡ map g before ++ this ∷ [] = ap (map g) items ∙ map-append g before (pushed ∷ []) ∙ ap (λ (z : Y). map g before ++ z ∷ []) (value ∙ ap f is) in
    ap (λ (l : List Y). l ++ later) made
    ∙ (append_assoc (map g before) (this ∷ []) later ∙ (ap (λ (l : List Y). map g before ++ l) (sym here) ∙ so_far))
