-- What contracts see of a source that was read.
use Rattle.std.specs.Prelude.{ℕ, List, refl}
use Rattle.std.specs.Coded.{Coded, code_by, coded×, coded_ℕ, coded_list}
use Rattle.og_typed.specs.Syntax.{Program}
use Rattle.og_typed.specs.Codes.{program_code}

-- the bytes, and the outline that they stand for
pub record ReadSource : Type 0 where
  pub bytes : List ℕ
  pub outline : Program

abbrev pub source_code : Coded ReadSource
source_code =
    code_by (List ℕ × Program) (coded× (coded_list coded_ℕ) program_code) (λ s. (s.bytes, s.outline)) (λ p. record { bytes = p.0; outline = p.1 }) (λ _. refl)
