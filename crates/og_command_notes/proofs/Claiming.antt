-- The findings on questions.
use Rattle.std.proofs.Common.{◌≡◌, ◌∙◌, ◌&&◌, ◌++◌, refl, sym, ap, ℤ, Bool, true, false, List, [], ◌∷◌, map}
use Rattle.std.specs.List.{AllByRecursion}
use Rattle.std.proofs.lemmas.Bool.{true≢false}
use Rattle.og_linear.specs.Linear.{IsProper}
use Rattle.og_cond.specs.Condition.{Part, Hypothesis, Is}
use Rattle.og_cond.specs.Valid.{part_true, all_parts, hypotheses_true}
use Rattle.og_command_notes.specs.Claims.{Claim, IsFound, AreNeverTrue}

-- hypotheses that are facts are true where the facts are
pub as_facts : (s : List ℤ) (parts : List Part) → hypotheses_true s (map Is parts) ≡ all_parts s parts
as_facts s [] = refl
as_facts s (part ∷ parts) = ap (λ (b : Bool). part_true s part && b) (as_facts s parts)

-- where nothing follows from facts in any state, they are never true together
pub never_true : (hs : List Hypothesis) (parts : List Part) → hs ≡ map Is parts → ((s : List ℤ) → IsProper s → hypotheses_true s hs ≡ true → false ≡ true) → AreNeverTrue parts
never_true hs parts is valid s proper = go (all_parts s parts) refl
  where
    go : (b : Bool) → all_parts s parts ≡ b → all_parts s parts ≡ false
    go true e = absurd (true≢false (sym (valid s proper (ap (hypotheses_true s) is ∙ (as_facts s parts ∙ e)))))
    go false e = e

pub found_more : (cs : List Claim) (c : Claim) → AllByRecursion IsFound cs → IsFound c → AllByRecursion IsFound (cs ++ c ∷ [])
found_more [] c h found = (found, tt)
found_more (x ∷ xs) c h found = (h.0, found_more xs c h.1 found)
