-- Three pieces.
use Rattle.std.proofs.Common.{◌≡◌, ◌++◌, ◌∙◌, ℕ, List, ap, append_assoc}

pub three : (t0 t1 t2 t3 a b c : List ℕ) → t1 ≡ t0 ++ a → t2 ≡ t1 ++ b → t3 ≡ t2 ++ c → t3 ≡ t0 ++ (a ++ (b ++ c))
three t0 t1 t2 t3 a b c e1 e2 e3 = e3 ∙ ap (λ l. l ++ c) (e2 ∙ ap (λ l. l ++ b) e1) ∙ append_assoc (t0 ++ a) b c ∙ append_assoc t0 a (b ++ c)
