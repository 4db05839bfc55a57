-- An outline, and whether it is safe and unblocked.
use Rattle.std.specs.Prelude.{Bool, refl}
use Rattle.std.specs.Coded.{Coded, code_by, coded×, coded_bool}
use Rattle.og_typed.specs.Syntax.{Program}
use Rattle.og_typed.specs.Codes.{program_code}

pub record Judged : Type 0 where
  pub outline : Program
  pub safe : Bool
  pub unblocked : Bool

abbrev pub judged : Program → Bool → Bool → Judged
judged outline safe unblocked = record { outline = outline; safe = safe; unblocked = unblocked }

abbrev pub judged_code : Coded Judged
judged_code =
    code_by (Program × (Bool × Bool)) (coded× program_code (coded× coded_bool coded_bool)) (λ j. (j.outline, (j.safe, j.unblocked)))
    (λ p. judged p.0 p.1.0 p.1.1) (λ _. refl)
