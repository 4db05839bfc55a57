-- Certificates as plain trees: steps that refute a list of facts.
use Rattle.std.specs.Prelude.{ℕ, List, [], ◌∷◌}
use Rattle.og_linear.specs.Linear.{FormValue}

-- a fact by its number from 1, or that a variable isn't below or above the i64 range
pub data Ref : Type 0 where
  Known : ℕ → Ref
  Low : ℕ → Ref
  High : ℕ → Ref

-- multiples of facts
abbrev pub Combination : Type 0
Combination = List (ℕ × Ref)

-- a sum or a cut adds a fact, and a certificate goes on after it; a branch has two certificates, and a split one for each part
mutual
  pub data Cert : Type 0 where
    Sum : Combination → Cert → Cert
    Cut : ℕ → ℕ → Cert → Cert
    Close : Combination → Cert
    Branch : FormValue → Cert → Cert → Cert
    SplitOn : ℕ → Certs → Cert

  pub data Certs : Type 0 where
    no_cert : Certs
    cert : Cert → Certs → Certs

abbrev pub cert_list : List Cert → Certs
cert_list [] = no_cert
cert_list (c ∷ cs) = cert c (cert_list cs)
