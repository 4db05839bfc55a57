-- Well-formed certificates: their lines, and how deep they are.
use Rattle.std.specs.Prelude.{ℕ, ◌+◌, List, [], ◌∷◌, ◌++◌, Bool, true, ◌&&◌, nat_lt}
use Rattle.std.specs.List.{list_all}
use Rattle.og_cert_text.specs.Tree.{Cert, Sum, Cut, Close, Branch, SplitOn, Certs, no_cert, cert}
use Rattle.og_cert_text.specs.Lines.{Line, SumLine, CutLine, BranchLine, SplitLine, CloseLine, is_line, cert_count, most_depth}

abbrev mutual
  pub cert_lines : Cert → List Line
  cert_lines (Sum ts c) = SumLine ts ∷ cert_lines c
  cert_lines (Cut i d c) = CutLine i d ∷ cert_lines c
  cert_lines (Close ts) = CloseLine ts ∷ []
  cert_lines (Branch f c d) = BranchLine f ∷ (cert_lines c ++ cert_lines d)
  cert_lines (SplitOn i cs) = SplitLine i (cert_count cs) ∷ certs_lines cs

  pub certs_lines : Certs → List Line
  certs_lines no_cert = []
  certs_lines (cert c cs) = cert_lines c ++ certs_lines cs

-- with this many branches and splits round the certificate, none has `most_depth` or more round it
abbrev mutual
  pub is_shallow : ℕ → Cert → Bool
  is_shallow d (Sum ts c) = is_shallow d c
  is_shallow d (Cut i k c) = is_shallow d c
  is_shallow d (Close ts) = true
  is_shallow d (Branch f b c) = nat_lt d most_depth && is_shallow (d + 1) b && is_shallow (d + 1) c
  is_shallow d (SplitOn i cs) = nat_lt d most_depth && are_shallow (d + 1) cs

  pub are_shallow : ℕ → Certs → Bool
  are_shallow d no_cert = true
  are_shallow d (cert c cs) = is_shallow d c && are_shallow d cs

-- not too deep, and each line within its limits
abbrev pub is_well_formed : Cert → Bool
is_well_formed c = is_shallow 0 c && list_all is_line (cert_lines c)
