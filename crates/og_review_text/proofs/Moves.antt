-- The assignments of a step, one by one.
use Rattle.std.proofs.Common.{◌≡◌, ◌∙◌, ◌++◌, ℕ, List, [], ◌∷◌, refl, sym, ap, append_assoc, arith}
use Rattle.std.specs.Prelude.{nat_lt, Bool, true, false, cond, length, Option}
use Rattle.og_typed.specs.Syntax.{Simple, Pass, Set}
use Rattle.og_review_text.specs.Idioms.{Move, moves_in, free_idiom}
use Rattle.og_review_text.specs.declared.idioms.Idiom.{Idiom}

-- those of the first statement, and those of the others
pub moves_first : (n : ℕ) (first : Simple) (rest : List Simple) → moves_in n (first ∷ rest) ≡ moves_in n (first ∷ []) ++ moves_in n rest
moves_first n Pass rest = refl
moves_first n (Set x e) rest = go (nat_lt x n)
  where
    go : (b : Bool) → cond b ((x, e) ∷ moves_in n rest) (moves_in n rest) ≡ cond b ((x, e) ∷ []) [] ++ moves_in n rest
    go true = refl
    go false = refl

-- they are added one after another
pub moves_more : (n : ℕ) (old new : List Move) (first : Simple) (rest : List Simple) (whole : List Move) → new ≡ old ++ moves_in n (first ∷ []) → old ++ moves_in n (first ∷ rest) ≡ whole → new ++ moves_in n rest ≡ whole
moves_more n old new first rest whole made e =
    ap (λ (l : List Move). l ++ moves_in n rest) made ∙ (append_assoc old (moves_in n (first ∷ [])) (moves_in n rest) ∙ (ap (λ (l : List Move). old ++ l) (sym (moves_first n first rest)) ∙ e))

-- what is so of any two variables is so of a list of two
pub of_two : (xs : List ℕ) (ms : List Move) (r : Option Idiom) → length xs ≡ 2 → ((x y : ℕ) → r ≡ free_idiom (x ∷ y ∷ []) ms) → r ≡ free_idiom xs ms
of_two [] ms r two h = absurd (omega (arith, two))
of_two (x ∷ []) ms r two h = absurd (omega (arith, two))
of_two (x ∷ y ∷ []) ms r two h = h x y
of_two (x ∷ y ∷ z ∷ zs) ms r two h = absurd (omega (arith, two))
