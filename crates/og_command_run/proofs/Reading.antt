-- What one more word adds.
use Rattle.std.proofs.Common.{◌≡◌, ◌∙◌, ℕ, ℤ, ◌+◌, ◌<◌, List, ◌∷◌, length, drop, map, Option, Some, Result, Bor, ap, sym, subst, inl, drop-cons, add-one}
use Rattle.std.specs.Prelude.{set, slice_index_or}
use Rattle.og_command_run.specs.Words.{Adds, Reads}

-- the word at the index i, and those after it
behind : (words : List (Bor (List ℕ))) (i : ℕ) (d : Bor (List ℕ)) → i < length words
    → map (λ w. w.now) (drop i words) ≡ (slice_index_or words i d).now ∷ map (λ w. w.now) (drop (i + 1) words)
behind words i d h = ap (map (λ (w : Bor (List ℕ)). w.now)) (drop-cons words i d h ∙ ap (λ j. slice_index_or words i d ∷ drop j words) (sym (add-one i)))

-- it adds a value
pub reads_on : (names : List (List ℕ)) (given : List (Option ℤ)) (words : List (Bor (List ℕ))) (i x : ℕ) (z : ℤ) (d : Bor (List ℕ)) (r : Result (List (Option ℤ)) (List ℕ))
    → i < length words → Adds names given (slice_index_or words i d).now x z → Reads names (set given x (Some z)) (map (λ w. w.now) (drop (i + 1) words)) r
    → Reads names given (map (λ w. w.now) (drop i words)) r
reads_on names given words i x z d r h adds rest =
    subst (λ (ws : List (List ℕ)). Reads names given ws r) (sym (behind words i d h)) (inl (x, z, adds, rest))
