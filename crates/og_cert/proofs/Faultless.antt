-- A certificate has no fault exactly where it closes the facts.
use Rattle.std.proofs.Common.{◌≡◌, ℕ, ◌+◌, List, [], ◌∷◌, ◌++◌, length, Bool, true, ◌&&◌, Option, Some, None, Result, Ok, Err, refl}
use Rattle.std.specs.Prelude.{◌↔◌}
use Rattle.std.proofs.lemmas.Bool.{and_parts, and_from, false≢true}
use Rattle.og_facts.specs.Facts.{Fact, Atom}
use Rattle.og_cert_text.specs.Tree.{Cert, Sum, Cut, Close, Branch, SplitOn, Certs, no_cert, cert}
use Rattle.og_cert_text.specs.Lines.{cert_count}
use Rattle.og_cert.specs.declared.fault.FaultKind.{FaultKind}
use Rattle.og_cert.specs.declared.fault.ReplayFault.{ReplayFault}
use Rattle.og_cert.specs.Checks.{room, combination, closing, cut_at, otherwise, parts_at, one_each}
use Rattle.og_cert.specs.Closes.{passes, closes, closes_parts}
use Rattle.og_cert.specs.Faults.{lines, check, or_else, fault_from, fault_parts}

-- a check passes where it has no fault, if what follows does
follows : {A : Type 0} (line : ℕ) (r : Result A FaultKind) (p : A → Bool) (g : A → Option ReplayFault) → ((x : A) → (p x ≡ true) ↔ (g x ≡ None)) → (passes r p ≡ true) ↔ (check line r g ≡ None)
follows line (Ok x) p g h = h x
follows line (Err e) p g h = (λ q. absurd (false≢true q), λ q. absurd (cc))

both_follow : (a b : Bool) (o p : Option ReplayFault) → (a ≡ true) ↔ (o ≡ None) → (b ≡ true) ↔ (p ≡ None) → ((a && b) ≡ true) ↔ (or_else o p ≡ None)
both_follow a b None p h k = (λ e. k.0 (and_parts a b e).1, λ e. and_from a b (h.1 refl) (k.1 e))
both_follow a b (Some x) p h k = (λ e. absurd (some_none x (h.0 (and_parts a b e).0)), λ e. absurd (some_none x e))
  where
    some_none : (x : ReplayFault) → Some x ≡ None → ⊥
    some_none x e = cc

mutual
  pub no_fault : (c : Cert) (line n : ℕ) (fs : List Fact) → (closes n fs c ≡ true) ↔ (fault_from line n fs c ≡ None)
  no_fault (Sum ts c) line n fs =
      follows line (combination n fs ts) _ _ (λ f. follows line (room fs 1) _ _ (λ _. no_fault c (line + 1) n (fs ++ Atom f ∷ [])))
  no_fault (Cut i d c) line n fs =
      follows line (cut_at fs i d) _ _ (λ f. follows line (room fs 1) _ _ (λ _. no_fault c (line + 1) n (fs ++ Atom f ∷ [])))
  no_fault (Close ts) line n fs = follows line (closing n fs ts) _ _ (λ _. (λ p. refl, λ p. refl))
  no_fault (Branch f c d) line n fs =
      follows line (otherwise n f) _ _ (λ g. follows line (room fs 1) _ _ (λ _.
      both_follow _ _ _ _ (no_fault c (line + 1) n (fs ++ Atom f ∷ [])) (no_fault d (line + 1 + lines c) n (fs ++ Atom g ∷ []))))
  no_fault (SplitOn i cs) line n fs =
      follows line (parts_at fs i) _ _ (λ ps. follows line (one_each (length ps) (cert_count cs)) _ _ (λ _. no_part_fault cs (line + 1) line n fs ps))

  no_part_fault : (cs : Certs) (line at n : ℕ) (fs : List Fact) (ps : List (List Fact)) → (closes_parts n fs ps cs ≡ true) ↔ (fault_parts line at n fs ps cs ≡ None)
  no_part_fault no_cert line at n fs [] = (λ p. refl, λ p. refl)
  no_part_fault no_cert line at n fs (p ∷ ps) = (λ e. absurd (false≢true e), λ e. absurd (cc))
  no_part_fault (cert c cs) line at n fs [] = (λ e. absurd (false≢true e), λ e. absurd (cc))
  no_part_fault (cert c cs) line at n fs (p ∷ ps) =
      follows at (room fs (length p)) _ _ (λ _. both_follow _ _ _ _ (no_fault c line n (fs ++ p)) (no_part_fault cs (line + lines c) at n fs ps))
