-- What stands in the notes.
use Rattle.std.proofs.Common.{◌∙◌, ◌++◌, inl, inr, sym, ap, ℕ, List, [], ◌∷◌, append_assoc}
use Rattle.std.specs.Prelude.{flat_map, length, codes}
use Rattle.og_review_text.specs.Accesses.{step_line, step_lines}
use Rattle.og_review_text.specs.Hidden.{hidden_lines}
use Rattle.og_review_text.specs.Points.{points}
use Rattle.og_review_text.specs.Steps.{all_steps}
use Rattle.og_review_text.specs.Unused.{unused_lines}
use Rattle.og_review_text.proofs.Accessing.{Member, member}
use Rattle.og_command_notes.specs.Law.{IsIn, StepsAreListed, ClaimsAreListed}
use Rattle.og_command_notes.specs.Together.{are_many}
use Rattle.og_command_notes.specs.Notes.{assertion_line, claim_line, claims_text, together_text, findings_text, unblocked_line, definitions_line, auxiliaries, auxiliaries_text, program_of}

-- ---- parts of texts

behind : (a part text : List ℕ) → IsIn part text → IsIn part (a ++ text)
behind a part text h = (a ++ h.0, h.1, ap (λ (l : List ℕ). a ++ l) h.2 ∙ sym (append_assoc a h.0 (part ++ h.1)))

before : (b part text : List ℕ) → IsIn part text → IsIn part (text ++ b)
before b part text h =
    (h.0, h.1 ++ b, ap (λ (l : List ℕ). l ++ b) h.2 ∙ (append_assoc h.0 (part ++ h.1) b ∙ ap (λ (l : List ℕ). h.0 ++ l) (append_assoc part h.1 b)))

in_all : {X : Type 0} (f : X → List ℕ) (xs : List X) (x : X) → Member xs x → IsIn (f x) (flat_map f xs)
in_all f [] x m = absurd m
in_all f (y ∷ ys) x (inl is) = ([], flat_map f ys, ap (λ z. f z ++ flat_map f ys) is)
in_all f (y ∷ ys) x (inr m) = behind (f y) (f x) (flat_map f ys) (in_all f ys x m)

pub steps_are_listed : StepsAreListed
steps_are_listed o source rows claims blocks step h =
    let all = all_steps o in
    let line = step_line source rows o.names o.vars all in
    let first = claims_text o source rows claims in
    let second = unused_lines o in
    let third = together_text source rows (points o) (length o.processes) blocks (are_many (points o)) in
    let last = hidden_lines source ++ ((unblocked_line ++ definitions_line) ++ (auxiliaries_text o (auxiliaries o) ++ program_of o)) in
    before last (line step) (findings_text o source rows claims blocks)
    (behind first (line step) (second ++ (third ++ flat_map line all)) (behind second (line step) (third ++ flat_map line all) (behind third (line step) (flat_map line all) (in_all line all step (member all step h)))))

pub claims_are_listed : ClaimsAreListed
claims_are_listed o source rows claims blocks c h =
    let line = claim_line source rows in
    let pre = assertion_line source rows o.names (codes "precondition") o.pre in
    let post = assertion_line source rows o.names (codes "postcondition") o.post in
    let listed_lines = flat_map line claims in
    let rest = unused_lines o ++ (together_text source rows (points o) (length o.processes) blocks (are_many (points o)) ++ step_lines source rows o.names o.vars (all_steps o)) in
    let last = hidden_lines source ++ ((unblocked_line ++ definitions_line) ++ (auxiliaries_text o (auxiliaries o) ++ program_of o)) in
    before last (line c) (findings_text o source rows claims blocks)
    (before rest (line c) (pre ++ (post ++ listed_lines)) (behind pre (line c) (post ++ listed_lines) (behind post (line c) listed_lines (in_all line claims c (member claims c h)))))
