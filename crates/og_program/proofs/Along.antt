-- From the bytes and words that a call was given to those that were read.
use Rattle.std.proofs.Common.{◌≡◌, sym, ap, subst, ℕ, List, Bool, None, Ok}
use Rattle.std.specs.Borrow.{Bor}
use Rattle.og_judge.specs.Proven.{IsProvenSource}
use Rattle.og_judge.specs.NeverStuck.{IsNeverStuckSource}
use Rattle.og_report_text.specs.Yes.{SaysUnblocked}
use Rattle.og_report_text.specs.declared.answer.Answer.{Answer}
use Rattle.og_command_check.specs.Answers.{IsReported}
use Rattle.og_command_check.specs.Warrants.{Warrants}
use Rattle.og_command_check.specs.declared.answer.CheckReply.{CheckReply}
use Rattle.og_program.specs.World.{Text}
use Rattle.og_program.specs.Beside.{Answers}
use Rattle.og_program.specs.Commands.{NotesCheck, IsCheckReport}
use Rattle.og_program.specs.declared.outcome.Outcome.TheVariants as outcomes
use Rattle.og_program.specs.declared.outcome.Report.{Report}

pub along_two : (P : List ℕ → List (Bor (List ℕ)) → Type 0) (s t : List ℕ) (v w : List (Bor (List ℕ))) → s ≡ t → v ≡ w → P s v → P t w
along_two P s t v w e g h = subst (λ (x : List (Bor (List ℕ))). P t x) g (subst (λ (x : List ℕ). P x v) e h)

pub along_all : (P : List ℕ → List ℕ → List (Bor (List ℕ)) → Type 0) (s t k l : List ℕ) (v w : List (Bor (List ℕ)))
    → s ≡ t → k ≡ l → v ≡ w → P s k v → P t l w
along_all P s t k l v w e f g h =
    subst (λ (x : List (Bor (List ℕ))). P t l x) g (subst (λ (x : List ℕ). P t x v) f (subst (λ (x : List ℕ). P x k v) e h))

-- an answer, and nothing beside it
pub answers : (answer : Answer) (r : Report) → r ≡ record { answer = answer; note = Ok None } → Answers answer (outcomes.Report r)
answers answer r is = (ap (λ (q : Report). q.answer) is, ap (λ (q : Report). q.note) is)

-- the report of a check, by what was checked
pub reported : (json : Bool) (source certs : Text) (checked : CheckReply) (r : Report) → IsReported json source.bytes certs.bytes checked → r.answer ≡ checked.answer → NotesCheck source.name checked r.note
    → (checked.answer.status ≡ 0 → IsProvenSource source.bytes) → (checked.answer.status ≡ 0 → SaysUnblocked json checked.answer.text.items → IsNeverStuckSource source.bytes) → IsCheckReport json source certs r
reported json source certs checked r is same note sound unblocked =
    (checked, is, same, note, subst (λ (a : Answer). Warrants json source.bytes a.text.items a.status) (sym same) (sound, unblocked))
