-- Texts that are added one after another.
use Rattle.std.proofs.Common.{◌≡◌, ◌++◌, ◌∙◌, ap, ℕ, List}
use Rattle.std.proofs.lemmas.List.{append_assoc}

-- a text, the next one and the last one
pub then : (all front mid last : List ℕ) (old : List ℕ) → front ≡ old ++ mid → all ≡ front ++ last → all ≡ old ++ (mid ++ last)
then all front mid last old e f = f ∙ ap (λ l. l ++ last) e ∙ append_assoc old mid last

-- four texts, of which the first two stand together
pub four : (all front third a b c d : List ℕ) → front ≡ (a ++ b) ++ c → third ≡ front ++ d → (rest : List ℕ) → all ≡ third ++ rest
    → all ≡ a ++ (b ++ (c ++ (d ++ rest)))
four all front third a b c d e f rest g =
    then all third d rest front f g ∙ ap (λ l. l ++ (d ++ rest)) e ∙ append_assoc (a ++ b) c (d ++ rest) ∙ append_assoc a b (c ++ (d ++ rest))
