-- From what an answer promises to what an engine does.
use Rattle.std.proofs.Common.{◌≡◌, ℕ, Bool, List, Option, None, Some, sym, subst, ◌∙◌}
use Rattle.std.proofs.lemmas.List.{append_cancel_left}
use Rattle.std.specs.Io.KnownBytes.{Appends}
use Rattle.og_typed.specs.Syntax.{Program}
use Rattle.og_typed.specs.Source.{IsSource}
use Rattle.og_judge.specs.Proven.{IsProvenSource}
use Rattle.og_judge.specs.NeverStuck.{IsNeverStuckSource}
use Rattle.og_report_text.specs.Yes.{SaysUnblocked}
use Rattle.og_report_text.specs.declared.answer.Answer.{Answer}
use Rattle.og_command_check.specs.Warrants.{Warrants}
use Rattle.og_command_check.specs.Promised.{Promises}
use Rattle.og_command_check.specs.Wrote.{Wrote}

pub sound_source : (json : Bool) (source : List ℕ) (o : Program) (a : Answer) → IsSource source o → Promises json o a → a.status ≡ 0 → IsProvenSource source
sound_source json source o a s p zero = (o, s, (p.0 zero).0, (p.0 zero).1)

pub unblocked_source : (json : Bool) (source : List ℕ) (o : Program) (a : Answer) → IsSource source o → Promises json o a
    → a.status ≡ 0 → SaysUnblocked json a.text.items → IsNeverStuckSource source
unblocked_source json source o a s p zero says = (o, s, (p.1 zero says).0, (p.1 zero says).1)

-- what was appended is what was written
pub written_text : (P : List ℕ → Type 0) (before after : Option (List ℕ)) (text : List ℕ) → Appends before after text → Wrote P before after → P text
written_text P None after text appended w = absurd w
written_text P (Some xs) None text appended w = absurd w
written_text P (Some xs) (Some ys) text appended w =
    subst P (append_cancel_left xs w.0 text (sym w.1 ∙ appended)) w.2

-- where it says that it is unblocked, the source never gets stuck
pub wrote_unblocked : (json : Bool) (source text : List ℕ) (before after : Option (List ℕ)) (status : ℕ) → Warrants json source text status → Appends before after text
    → status ≡ 0 → Wrote (SaysUnblocked json) before after → IsNeverStuckSource source
wrote_unblocked json source text before after status warrants appended zero wrote =
    warrants.1 zero (written_text (SaysUnblocked json) before after text appended wrote)
