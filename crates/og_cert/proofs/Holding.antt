-- The facts that are held.
use Rattle.std.proofs.Common.{◌≡◌, ℕ, List, Option, Some, None, Ok, Err, MatchResult, sym, ap, ok_or}
use Rattle.std.specs.Prelude.{option_map}
use denote.Ref.{Bor}
use Rattle.og_facts.specs.Facts.{Fact}
use Rattle.og_facts.specs.Listed.{numbered}
use Rattle.og_cert.specs.declared.held.Held.{Held}
use Rattle.og_cert.specs.declared.fault.FaultKind.TheVariants as kinds
use Rattle.og_cert.specs.Checks.{fact_at}
use Rattle.og_cert.specs.Held.{held_fact}

-- a fact that is looked up
pub looked_up : (o : Option (Bor Held)) (fs : List Fact) (n : ℕ) → option_map (λ h. held_fact h.now) o ≡ numbered n fs → MatchResult (ok_or o kinds.NoSuchFact) (λ fact. fact_at fs n ≡ Ok (held_fact fact.now)) (λ kind. fact_at fs n ≡ Err kind)
looked_up None fs n e = ap (λ x. ok_or x kinds.NoSuchFact) (sym e)
looked_up (Some h) fs n e = ap (λ x. ok_or x kinds.NoSuchFact) (sym e)
