-- What values of the program stand for.
use Rattle.std.specs.Prelude.{◌≡◌, ℕ, List, ◌++◌, map}
use Rattle.std.specs.List.{AllByRecursion}
use Rattle.og_cond.specs.Condition as condition
use Rattle.og_cond.specs.Seen.{parts_of}
use Rattle.og_command_notes.specs.declared.claims.Asked.{Asked}
use Rattle.og_command_notes.specs.declared.claims.Claim.{Claim}
use Rattle.og_command_notes.specs.Claims as claims

abbrev pub question : Asked → ℕ → List condition.Part → claims.Question
question asked at facts = record { asked = asked; at = at; facts = facts }

abbrev pub claim_of : Claim → claims.Claim
claim_of c = record { question = question c.asked c.at (parts_of c.facts); refuted = c.refuted }

abbrev pub claims_of : List Claim → List claims.Claim
claims_of = map claim_of

-- ---- the addition at the end

-- these questions, and what was found of each is so
abbrev pub Gains : List claims.Claim → List claims.Claim → List claims.Question → Type 0
Gains old new more =
    (map claims.question_of new ≡ map claims.question_of old ++ more) × (AllByRecursion claims.IsFound old → AllByRecursion claims.IsFound new)
