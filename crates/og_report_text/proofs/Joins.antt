-- Texts that are added one after another.
use Rattle.std.proofs.Common.{◌≡◌, ℕ, List, ◌++◌, ap, ◌∙◌}
use Rattle.std.specs.Prelude.{Result, Ok, Err, OnOk}
use Rattle.std.proofs.lemmas.List.{append_assoc}

-- a text more before what the last call adds
pub joined : {X E : Type 0} (r : Result X E) (old mid new a tail : List ℕ) → mid ≡ old ++ a → OnOk r (new ≡ mid ++ tail) → OnOk r (new ≡ old ++ (a ++ tail))
joined (Ok x) old mid new a tail e h = h ∙ ap (λ l. l ++ tail) e ∙ append_assoc old a tail
joined (Err error) old mid new a tail e h = h

three_then : (a b c tail : List ℕ) → (a ++ (b ++ c)) ++ tail ≡ a ++ (b ++ (c ++ tail))
three_then a b c tail = append_assoc a (b ++ c) tail ∙ ap (λ l. a ++ l) (append_assoc b c tail)

-- three texts more, which one call adds
pub joined_three : {X E : Type 0} (r : Result X E) (old mid new a b c tail : List ℕ) → mid ≡ old ++ (a ++ (b ++ c)) → OnOk r (new ≡ mid ++ tail) → OnOk r (new ≡ old ++ (a ++ (b ++ (c ++ tail))))
joined_three (Ok x) old mid new a b c tail e h = h ∙ ap (λ l. l ++ tail) e ∙ append_assoc old (a ++ (b ++ c)) tail ∙ ap (λ l. old ++ l) (three_then a b c tail)
joined_three (Err error) old mid new a b c tail e h = h

-- four texts more, which one call adds
pub joined_four : {X E : Type 0} (r : Result X E) (old mid new a b c d tail : List ℕ) → mid ≡ old ++ (a ++ (b ++ (c ++ d))) → OnOk r (new ≡ mid ++ tail)
    → OnOk r (new ≡ old ++ (a ++ (b ++ (c ++ (d ++ tail)))))
joined_four (Ok x) old mid new a b c d tail e h =
    h
    ∙ ap (λ l. l ++ tail) e
    ∙ append_assoc old (a ++ (b ++ (c ++ d))) tail
    ∙ ap (λ l. old ++ l) (append_assoc a (b ++ (c ++ d)) tail ∙ ap (λ l. a ++ l) (three_then b c d tail))
joined_four (Err error) old mid new a b c d tail e h = h
