-- When a certificate closes a list of facts.
use Rattle.std.specs.Prelude.{ℕ, List, [], ◌∷◌, ◌++◌, length, Bool, true, false, ◌&&◌, Result, Ok, Err}
use Rattle.og_facts.specs.Facts.{Fact, Atom}
use Rattle.og_cert_text.specs.Tree.{Cert, Sum, Cut, Close, Branch, SplitOn, Certs, no_cert, cert}
use Rattle.og_cert_text.specs.Lines.{cert_count}
use Rattle.og_cert.specs.declared.fault.FaultKind.{FaultKind}
use Rattle.og_cert.specs.Checks.{room, combination, closing, cut_at, otherwise, parts_at, one_each}

abbrev pub passes : {A : Type 0} → Result A FaultKind → (A → Bool) → Bool
passes (Ok x) p = p x
passes (Err e) p = false

-- the certificate closes the facts, over n variables: a sum and a cut add a fact, a branch and a split close each of their cases
abbrev mutual
  pub closes : ℕ → List Fact → Cert → Bool
  closes n fs (Sum ts c) = passes (combination n fs ts) (λ f. passes (room fs 1) (λ _. closes n (fs ++ Atom f ∷ []) c))
  closes n fs (Cut i d c) = passes (cut_at fs i d) (λ f. passes (room fs 1) (λ _. closes n (fs ++ Atom f ∷ []) c))
  closes n fs (Close ts) = passes (closing n fs ts) (λ _. true)
  closes n fs (Branch f c d) =
      passes (otherwise n f) (λ g. passes (room fs 1) (λ _. closes n (fs ++ Atom f ∷ []) c && closes n (fs ++ Atom g ∷ []) d))
  closes n fs (SplitOn i cs) =
      passes (parts_at fs i) (λ ps. passes (one_each (length ps) (cert_count cs)) (λ _. closes_parts n fs ps cs))

  pub closes_parts : ℕ → List Fact → List (List Fact) → Certs → Bool
  closes_parts n fs [] no_cert = true
  closes_parts n fs [] (cert c cs) = false
  closes_parts n fs (p ∷ ps) no_cert = false
  closes_parts n fs (p ∷ ps) (cert c cs) = passes (room fs (length p)) (λ _. closes n (fs ++ p) c && closes_parts n fs ps cs)
