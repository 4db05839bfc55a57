-- Lists that have not one part.
use Rattle.std.proofs.Common.{◌≡◌, ◌<◌, ◌⊎◌, inl, inr, List, [], ◌∷◌, map, length, refl, arith}
use Rattle.std.specs.Prelude.{Ok}
use Rattle.og_template_expand.specs.declared.connective.Connective.TheVariants.{And, Or}
use Rattle.og_template_expand.specs.Trees.{Unit, Conjunction}
use Rattle.og_template_expand.specs.TreeOf.{conjoined, disjoined}
use Rattle.og_template_expand.specs.Answer.{◌>>=◌}
use Rattle.og_template_expand.specs.Scope.{Scope}
use Rattle.og_template_expand.specs.Assertions.{Opens, joined, conjuncts_by, conjunction_by, disjuncts_by, disjunction_by}

pub conjunction_joined : {X : Type 0} (opens : Opens) (scope : Scope) (f : X → Unit) (xs : List X) → (length xs < 1) ⊎ (1 < length xs) → conjunction_by opens scope (conjoined (map f xs)) ≡ (conjuncts_by opens scope (conjoined (map f xs)) >>= λ all. Ok (joined And all))
conjunction_joined opens scope f [] h = refl
conjunction_joined opens scope f (x ∷ []) (inl h) = absurd (omega arith)
conjunction_joined opens scope f (x ∷ []) (inr h) = absurd (omega arith)
conjunction_joined opens scope f (x ∷ y ∷ xs) h = refl

pub disjunction_joined : {X : Type 0} (opens : Opens) (scope : Scope) (f : X → Conjunction) (xs : List X) → (length xs < 1) ⊎ (1 < length xs) → disjunction_by opens scope (disjoined (map f xs)) ≡ (disjuncts_by opens scope (disjoined (map f xs)) >>= λ all. Ok (joined Or all))
disjunction_joined opens scope f [] h = refl
disjunction_joined opens scope f (x ∷ []) (inl h) = absurd (omega arith)
disjunction_joined opens scope f (x ∷ []) (inr h) = absurd (omega arith)
disjunction_joined opens scope f (x ∷ y ∷ xs) h = refl
