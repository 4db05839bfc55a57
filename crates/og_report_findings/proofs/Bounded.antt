-- One variable more.
use Rattle.std.proofs.Common.{◌≡◌, ℕ, suc, [], ◌∷◌, ◌++◌, not, ◌==◌, filter, map}
use Rattle.std.proofs.lemmas.List.{map-append}
use Rattle.std.proofs.lemmas.List.Elements.{filter-append}
use Rattle.og_typed.specs.Syntax.{Program}
use Rattle.og_report_text.specs.Values.{numbers}
use Rattle.og_report_findings.specs.Bounds.{others, numbers_of}

pub more_others : (n x : ℕ) → others (suc n) x ≡ others n x ++ filter (λ y. not (y == x)) (n ∷ [])
more_others n x = filter-append (λ y. not (y == x)) (numbers n) (n ∷ [])

pub more_assigned : (o : Program) (n : ℕ) → map (numbers_of o) (numbers (suc n)) ≡ map (numbers_of o) (numbers n) ++ numbers_of o n ∷ []
more_assigned o n = map-append (numbers_of o) (numbers n) (n ∷ [])
