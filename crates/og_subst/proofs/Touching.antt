-- What an action assigns.
use Rattle.std.proofs.Common.{◌≡◌, ℕ, ℤ, List, [], ◌∷◌, true, false, ◌||◌, ◌==◌, refl, ◌∙◌, subst, ⊎_elim}
use Rattle.std.specs.Prelude.{◌↔◌, ◌⊎◌}
use Rattle.std.proofs.lemmas.Bool.{or_cases, or_left, or_right, or_parts, eq-eqb, eqb-true, eqb-false, false≢true}
use Rattle.og_linear.specs.Linear.{value_at, put, val}
use Rattle.og_linear.proofs.Put.{put_other}
use Rattle.og_typed.specs.Syntax.{Formula, Simple, Pass, Set}
use Rattle.og_typed.specs.Occurs.{occurs, touches}
use Rattle.og_typed.specs.Machine.{act}
use Rattle.og_subst.specs.Actions.{assigns}

-- some variable is assigned and occurs
abbrev IsShared : List Simple → Formula → Type 0
IsShared body a = (x : ℕ) × (assigns x body ≡ true) × (occurs x a ≡ true)

touched : (body : List Simple) (a : Formula) → touches body a ≡ true → IsShared body a
touched [] a e = absurd (false≢true e)
touched (Pass ∷ rest) a e = touched rest a e
touched (Set y f ∷ rest) a e = go (touched rest a) (or_cases (occurs y a) (touches rest a) e)
  where
    go : (touches rest a ≡ true → IsShared rest a) → (occurs y a ≡ true) ⊎ (touches rest a ≡ true) → IsShared (Set y f ∷ rest) a
    go later = ⊎_elim (λ p. (y, or_left (y == y) (assigns y rest) (eq-eqb y y refl), p)) (λ p. let w = later p in (w.0, or_right (w.0 == y) (assigns w.0 rest) w.1, w.2))

touching : (body : List Simple) (a : Formula) (x : ℕ) → assigns x body ≡ true → occurs x a ≡ true → touches body a ≡ true
touching [] a x e p = absurd (false≢true e)
touching (Pass ∷ rest) a x e p = touching rest a x e p
touching (Set y f ∷ rest) a x e p = go (λ d. touching rest a x d p) (or_cases (x == y) (assigns x rest) e)
  where
    go : (assigns x rest ≡ true → touches rest a ≡ true) → ((x == y) ≡ true) ⊎ (assigns x rest ≡ true) → (occurs y a || touches rest a) ≡ true
    go later = ⊎_elim (λ d. or_left (occurs y a) (touches rest a) (subst (λ z. occurs z a ≡ true) (eqb-true x y d) p)) (λ d. or_right (occurs y a) (touches rest a) (later d))

pub touches_said : (body : List Simple) (a : Formula) → (touches body a ≡ true) ↔ IsShared body a
touches_said body a = (touched body a, λ w. touching body a w.0 w.1 w.2)

pub kept_said : (body : List Simple) (s : List ℤ) (x : ℕ) → assigns x body ≡ false → value_at (act body s) x ≡ value_at s x
kept_said [] s x e = refl
kept_said (Pass ∷ rest) s x e = kept_said rest s x e
kept_said (Set y f ∷ rest) s x e =
    let parts = or_parts (x == y) (assigns x rest) e in
    kept_said rest (put s y (val f s)) x parts.1 ∙ put_other s y x (val f s) (eqb-false x y parts.0)
