-- The first fault of a certificate, with its line.
use Rattle.std.specs.Prelude.{ℕ, ◌+◌, List, [], ◌∷◌, ◌++◌, length, Option, Some, None, Result, Ok, Err}
use Rattle.og_facts.specs.Facts.{Fact, Atom}
use Rattle.og_cert_text.specs.Tree.{Cert, Sum, Cut, Close, Branch, SplitOn, Certs, no_cert, cert}
use Rattle.og_cert_text.specs.Lines.{cert_count}
use Rattle.og_cert.specs.declared.fault.FaultKind.{FaultKind}
use Rattle.og_cert.specs.declared.fault.FaultKind.TheVariants as kinds
use Rattle.og_cert.specs.declared.fault.ReplayFault.{ReplayFault}
use Rattle.og_cert.specs.Checks.{room, combination, closing, cut_at, otherwise, parts_at, one_each}

-- each sum, cut, branch, split and close is one line
abbrev mutual
  pub lines : Cert → ℕ
  lines (Sum ts c) = 1 + lines c
  lines (Cut i d c) = 1 + lines c
  lines (Close ts) = 1
  lines (Branch f c d) = 1 + (lines c + lines d)
  lines (SplitOn i cs) = 1 + lines_of cs

  pub lines_of : Certs → ℕ
  lines_of no_cert = 0
  lines_of (cert c cs) = lines c + lines_of cs

abbrev pub fault_at : ℕ → FaultKind → ReplayFault
fault_at line kind = record { kind = kind; step = line }

-- the fault of a check of this line, or else that of what follows
abbrev pub check : {A : Type 0} → ℕ → Result A FaultKind → (A → Option ReplayFault) → Option ReplayFault
check line (Ok x) f = f x
check line (Err kind) f = Some (fault_at line kind)

abbrev pub or_else : Option ReplayFault → Option ReplayFault → Option ReplayFault
or_else None o = o
or_else (Some x) o = Some x

-- the first fault of a certificate that starts at this line, over n variables
abbrev mutual
  pub fault_from : ℕ → ℕ → List Fact → Cert → Option ReplayFault
  fault_from line n fs (Sum ts c) =
      check line (combination n fs ts) (λ f. check line (room fs 1) (λ _. fault_from (line + 1) n (fs ++ Atom f ∷ []) c))
  fault_from line n fs (Cut i d c) =
      check line (cut_at fs i d) (λ f. check line (room fs 1) (λ _. fault_from (line + 1) n (fs ++ Atom f ∷ []) c))
  fault_from line n fs (Close ts) = check line (closing n fs ts) (λ _. None)
  fault_from line n fs (Branch f c d) =
      check line (otherwise n f) (λ g. check line (room fs 1) (λ _.
      or_else (fault_from (line + 1) n (fs ++ Atom f ∷ []) c) (fault_from (line + 1 + lines c) n (fs ++ Atom g ∷ []) d)))
  fault_from line n fs (SplitOn i cs) =
      check line (parts_at fs i) (λ ps. check line (one_each (length ps) (cert_count cs)) (λ _. fault_parts (line + 1) line n fs ps cs))

  -- of the parts from this line on, of a split at that line
  pub fault_parts : ℕ → ℕ → ℕ → List Fact → List (List Fact) → Certs → Option ReplayFault
  fault_parts line at n fs [] no_cert = None
  fault_parts line at n fs [] (cert c cs) = Some (fault_at at kinds.LeftOver)
  fault_parts line at n fs (p ∷ ps) no_cert = Some (fault_at at kinds.NotClosed)
  fault_parts line at n fs (p ∷ ps) (cert c cs) =
      check at (room fs (length p)) (λ _. or_else (fault_from line n (fs ++ p) c) (fault_parts (line + lines c) at n fs ps cs))

-- a certificate's own lines count from 1
abbrev pub first_fault : ℕ → List Fact → Cert → Option ReplayFault
first_fault = fault_from 1
