-- A form of which an action assigns no variable stays as it is.
use Rattle.std.proofs.Common.{◌≡◌, ℕ, ◌+◌, List, [], ◌∷◌, drop, Bool, true, false, ◌&&◌, ◌==◌, cond, Some, None, ◌⊎◌, inl, inr, refl, sym, ap, ◌∙◌, subst, ⊎_elim}
use Rattle.std.specs.Prelude.{slice_get, not}
use Rattle.std.specs.List.{list_all}
use Rattle.std.proofs.lemmas.Bool.{or_cases, or_left, or_right, both_ways}
use Rattle.std.proofs.lemmas.Option.{same_Some, option_and_then_some}
use Rattle.og_linear.specs.Linear.{Terms, FormValue}
use Rattle.og_linear.specs.Bounded.{MapValue, map_set, apply, names}
use Rattle.og_typed.specs.Syntax.{Simple, Pass, Set}
use Rattle.og_subst.specs.Actions.{assigns}
use Rattle.og_subst.specs.Subst.{forward_on, forward}
use Rattle.og_facts.proofs.Atoms.{at_term, past}

names_set : (m : MapValue) (y : ℕ) (g : FormValue) (x : ℕ) → names (map_set m y g) x ≡ true → ((x == y) ≡ true) ⊎ (names m x ≡ true)
names_set [] y g x h = or_cases (x == y) false h
names_set (e ∷ m) y g x h = go (names_set m y g x) (y == e.0) refl
  where
    go : (names (map_set m y g) x ≡ true → ((x == y) ≡ true) ⊎ (names m x ≡ true)) → (b : Bool) → (y == e.0) ≡ b → ((x == y) ≡ true) ⊎ (names (e ∷ m) x ≡ true)
    go rest true k =
        ⊎_elim (λ p. inl p) (λ p. inr (or_right (x == e.0) (names m x) p))
        (or_cases (x == y) (names m x) (subst (λ b. names (cond b ((y, g) ∷ m) (e ∷ map_set m y g)) x ≡ true) k h))
    go rest false k =
        ⊎_elim (λ p. inr (or_left (x == e.0) (names m x) p))
        (λ p. ⊎_elim (λ q. inl q) (λ q. inr (or_right (x == e.0) (names m x) q)) (rest p))
        (or_cases (x == e.0) (names (map_set m y g) x) (subst (λ b. names (cond b ((y, g) ∷ m) (e ∷ map_set m y g)) x ≡ true) k h))

named_before : (body : List Simple) (before m : MapValue) (x : ℕ) → forward_on body before ≡ Some m → names m x ≡ true → (names before x ≡ true) ⊎ (assigns x body ≡ true)
named_before [] before m x e h = inl (subst (λ n. names n x ≡ true) (sym (same_Some before m e)) h)
named_before (Pass ∷ rest) before m x e h = named_before rest before m x e h
named_before (Set y f ∷ rest) before m x e h =
    option_and_then_some (λ v. forward_on rest (map_set before y v)) (apply before f) m e
    (λ v p q.
    ⊎_elim
    (λ k. ⊎_elim (λ same. inr (or_left (x == y) (assigns x rest) same)) (λ named. inl named) (names_set before y v x k))
    (λ k. inr (or_right (x == y) (assigns x rest) k))
    (named_before rest (map_set before y v) m x q h))

-- the map of an action names only what that assigns
pub named : (body : List Simple) (m : MapValue) (x : ℕ) → forward body ≡ Some m → names m x ≡ true → assigns x body ≡ true
named body m x e h = ⊎_elim (λ p. absurd (both_ways false refl p)) (λ p. p) (named_before body [] m x e h)

-- ---- the loop over the terms of a form

abbrev pub none_named : MapValue → Terms → Bool
none_named m = list_all (λ t. not (names m t.0))

pub named_turn : (m : MapValue) (ts : Terms) (i : ℕ) (t : ℕ × _) → slice_get ts i ≡ Some t → names m t.0 ≡ false → none_named m (drop (i + 1) ts) ≡ none_named m (drop i ts)
named_turn m ts i t e h = ap (λ b. not b && none_named m (drop (i + 1) ts)) (sym h) ∙ ap (none_named m) (sym (at_term ts i t e))

pub named_end : (m : MapValue) (ts : Terms) (i : ℕ) → slice_get ts i ≡ None → none_named m (drop i ts) ≡ true
named_end m ts i e = ap (none_named m) (past ts i e)
