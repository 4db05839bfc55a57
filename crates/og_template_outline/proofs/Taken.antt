-- Whether some words are left.
use Rattle.std.proofs.Common.{◌≡◌, ◌≤◌, ◌<◌, refl, ℕ, List, [], ◌∷◌, length, map, slice_index_or, arith}
use Rattle.std.specs.Prelude.{Contains}
use Rattle.std.specs.Borrow.{Bor}

pub first_word : (words : List (Bor (List ℕ))) (d : Bor (List ℕ)) → 1 ≤ length words → Contains (map (λ w. w.now) words) (slice_index_or words 0 d).now
first_word [] d some = absurd (omega (arith, some))
first_word (w ∷ words) d some = (0, omega arith, refl)

pub no_word : (words : List (Bor (List ℕ))) → length words < 1 → words ≡ []
no_word [] few = refl
no_word (w ∷ words) few = absurd (omega (arith, few))
