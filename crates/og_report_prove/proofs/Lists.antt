-- Lists, one element after another.
use Rattle.std.proofs.Common.{◌≡◌, ℕ, ◌+◌, List, [], ◌∷◌, ◌++◌, take, drop, Some, ap, ap₂, sym, ◌∙◌, drop-cons, add-one}
use Rattle.std.specs.Prelude.{slice_get}
use Rattle.std.proofs.Math.Seq.{take-suc}
use Rattle.std.proofs.lemmas.Option.{slice_get_within, get_or_from_slice_get}

pub dropped : {X : Type 0} (xs : List X) (i : ℕ) (x : X) → slice_get xs i ≡ Some x → drop i xs ≡ x ∷ drop (i + 1) xs
dropped xs i x is = drop-cons xs i x (slice_get_within xs i x is) ∙ ap₂ (λ u j. u ∷ drop j xs) (get_or_from_slice_get xs i x x is) (sym (add-one i))

pub taken : {X : Type 0} (xs : List X) (i : ℕ) (x : X) → slice_get xs i ≡ Some x → take (i + 1) xs ≡ take i xs ++ x ∷ []
taken xs i x is =
    ap (λ (j : ℕ). take j xs) (add-one i) ∙ take-suc xs i x (slice_get_within xs i x is) ∙ ap (λ u. take i xs ++ u ∷ []) (get_or_from_slice_get xs i x x is)
