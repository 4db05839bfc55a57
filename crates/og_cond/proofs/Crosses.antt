-- When an action may break an assertion, by sets of variables.
use Rattle.std.proofs.Common.{◌≡◌, ℕ, List, [], ◌∷◌, Bool, true, false, ◌&&◌, ◌||◌, nat_lt, nat_eq, refl, sym, ◌∙◌, ◌⊎◌, inl, inr, ◌↔◌, subst}
use Rattle.std.specs.Prelude.{IsTrue}
use Rattle.std.proofs.lemmas.Bool.{eqb-true, eq-eqb}
use Rattle.og_typed.specs.Syntax.{Formula, Simple, Pass, Set}
use Rattle.og_typed.specs.Occurs.{occurs}
use Rattle.og_cond.specs.Sets.{watches, changes}
use Rattle.og_cond.specs.Crossing.{crosses}

-- a variable in both sets
abbrev IsShared : List Simple → Formula → ℕ → Type 0
IsShared body a x = (changes body x ≡ true) × (watches a x ≡ true)

either : (a b : Bool) → (a || b) ≡ true → (a ≡ true) ⊎ (b ≡ true)
either true b e = inl refl
either false b e = inr e

both : (a b : Bool) → (a && b) ≡ true → (a ≡ true) × (b ≡ true)
both true b e = (refl, e)
both false b e = absurd (cc)

or_left : (a b : Bool) → a ≡ true → (a || b) ≡ true
or_left true b e = refl
or_left false b e = absurd (cc)

or_right : (a b : Bool) → b ≡ true → (a || b) ≡ true
or_right true b e = refl
or_right false b e = e

-- a variable that is assigned and occurs is found
found : (body : List Simple) (a : Formula) (x : ℕ) → IsShared body a x → crosses body a ≡ true
found [] a x h = absurd (cc)
found (Pass ∷ rest) a x h = found rest a x h
found (Set y e ∷ rest) a x h = go (either (nat_eq x y && nat_lt y 256) (changes rest x) h.0) (λ p. found rest a x (p, h.1))
  where
    go : ((nat_eq x y && nat_lt y 256) ≡ true) ⊎ (changes rest x ≡ true) → (changes rest x ≡ true → crosses rest a ≡ true) → (watches a y || crosses rest a) ≡ true
    go (inl p) later =
        or_left (watches a y) (crosses rest a) (subst (λ z. watches a z ≡ true) (eqb-true x y (both (nat_eq x y) (nat_lt y 256) p).0) h.1)
    go (inr p) later = or_right (watches a y) (crosses rest a) (later p)

-- the variable found is such a variable
shared : (body : List Simple) (a : Formula) → crosses body a ≡ true → (x : ℕ) × IsShared body a x
shared [] a e = absurd (cc)
shared (Pass ∷ rest) a e = shared rest a e
shared (Set y f ∷ rest) a e = go (either (watches a y) (crosses rest a) e) (shared rest a)
  where
    go : (watches a y ≡ true) ⊎ (crosses rest a ≡ true) → (crosses rest a ≡ true → (x : ℕ) × IsShared rest a x) → (x : ℕ) × IsShared (Set y f ∷ rest) a x
    go (inl p) later = (y, (or_left (nat_eq y y && nat_lt y 256) (changes rest y) (rw (eq-eqb y y refl) (both (nat_lt y 256) (occurs y a) p).0), p))
    go (inr p) later = let s = later p in (s.0, (or_right (nat_eq s.0 y && nat_lt y 256) (changes rest s.0) s.1.0, s.1.1))

-- by two sets that have a variable in common
pub met : (mine theirs : ℕ → Bool) (body : List Simple) (a : Formula) (r : Bool) → ((x : ℕ) → mine x ≡ changes body x) → ((x : ℕ) → theirs x ≡ watches a x) → (IsTrue r ↔ ((x : ℕ) × (mine x ≡ true) × (theirs x ≡ true))) → r ≡ crosses body a
met mine theirs body a true m t known =
    let x = known.0 refl in
    sym (found body a x.0 (sym (m x.0) ∙ x.1, sym (t x.0) ∙ x.2))
met mine theirs body a false m t known = go (crosses body a) (shared body a)
  where
    go : (b : Bool) → (b ≡ true → (x : ℕ) × IsShared body a x) → false ≡ b
    go true some = let x = some refl in known.1 (x.0, m x.0 ∙ x.1.0, t x.0 ∙ x.1.1)
    go false some = refl
