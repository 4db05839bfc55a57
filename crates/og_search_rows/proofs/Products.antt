-- Sums of products that fit.
use Rattle.std.proofs.Common.{◌≡◌, ℤ, ◌+ℤ◌, Option, Some, None, IfSome, SomeIff, ap₂, ◌∙◌}

-- what a checked sum of two numbers gives, each known in two steps
pub sum_of : (r : Option ℤ) (P : Type 0) (u v x y p q : ℤ) → u ≡ x → v ≡ y → x ≡ p → y ≡ q → SomeIff r P (u +ℤ v) → IfSome r (λ z. z ≡ p +ℤ q)
sum_of None P u v x y p q e f g h s = tt
sum_of (Some z) P u v x y p q e f g h s = s.1 ∙ ap₂ (λ (a b : ℤ). a +ℤ b) (e ∙ g) (f ∙ h)
