-- Texts that are added one after another.
use Rattle.std.proofs.Common.{◌≡◌, ℕ, List, ◌++◌, ap, ◌∙◌}
use Rattle.std.specs.Prelude.{Result, Ok, Err, OnOk}
use Rattle.std.proofs.lemmas.List.{append_assoc}

-- a text more before what the last call adds
pub joined : {X E : Type 0} (r : Result X E) (old mid new a tail : List ℕ) → mid ≡ old ++ a → OnOk r (new ≡ mid ++ tail) → OnOk r (new ≡ old ++ (a ++ tail))
joined (Ok x) old mid new a tail e h = h ∙ ap (λ l. l ++ tail) e ∙ append_assoc old a tail
joined (Err error) old mid new a tail e h = h
