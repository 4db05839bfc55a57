-- Lists of those of which something holds, made from the left.
use Rattle.std.proofs.Common.{List, [], ◌∷◌, ◌++◌, refl, ap, inl, inr}
use Rattle.og_parse.specs.Expected.{AreThose}

pub those_with : {X : Type 0} (P : X → Type 0) (xs those : List X) (x : X) → AreThose P xs those → P x → AreThose P (xs ++ x ∷ []) (those ++ x ∷ [])
those_with P [] those x are holds = inl (holds, ([], ap (λ zs. zs ++ x ∷ []) are, refl))
those_with P (y ∷ xs) those x are holds = elim are [
  | inl w ↦ inl (w.0, (w.1.0 ++ x ∷ [], ap (λ zs. zs ++ x ∷ []) w.1.1, those_with P xs w.1.0 x w.1.2 holds))
  | inr w ↦ inr (w.0, those_with P xs those x w.1 holds)
]

pub those_without : {X : Type 0} (P : X → Type 0) (xs those : List X) (x : X) → AreThose P xs those → (P x → ⊥) → AreThose P (xs ++ x ∷ []) those
those_without P [] those x are not = inr (not, are)
those_without P (y ∷ xs) those x are not = elim are [
  | inl w ↦ inl (w.0, (w.1.0, w.1.1, those_without P xs w.1.0 x w.1.2 not))
  | inr w ↦ inr (w.0, those_without P xs those x w.1 not)
]
