-- What a reply for an outline and words promises, and what it says of the runs.
use Rattle.std.specs.Prelude.{◌≡◌, ℕ, Bool, true, List, Contains, ⊤}
use Rattle.og_typed.specs.Syntax.{Program}
use Rattle.og_typed.specs.Erase.{erased}
use Rattle.og_theorem.specs.NeverStuck.{IsNeverStuck}
use Rattle.og_theorem.specs.Sound.{IsSound, IsSoundErased}
use Rattle.og_report_text.specs.Subject.{Subject}
use Rattle.og_report_text.specs.declared.answer.Answer.{Answer}
use Rattle.og_command_explore.specs.declared.exploring.Reply.{Reply}
use Rattle.og_command_explore.specs.declared.exploring.Reply.TheVariants as replies
use Rattle.og_command_prove.specs.Answer.{IsReported}
use Rattle.og_command_prove.specs.Printed.{SaysNeverStuckIn}
use Rattle.og_command_prove.specs.declared.form.ReportForm.{ReportForm}

-- the findings on the outline; or, with runs, one of the words, which gives no variable a range
abbrev pub IsReply : ReportForm → Bool → Subject → List (List ℕ) → Reply → Type 0
IsReply form runs s starts (replies.Answer a) = IsReported form runs s a
IsReply form runs s starts (replies.BadValue word) = Contains starts word.now × (runs ≡ true)

-- status 0 says that every run is as promised, and a text with the verdict that none gets stuck, that
-- none does
abbrev pub WarrantsAnswer : ReportForm → Program → Answer → Type 0
WarrantsAnswer form o a =
    (a.status ≡ 0 → IsSound o × IsSoundErased o)
    × (a.status ≡ 0 → SaysNeverStuckIn form a.text.items
    → IsNeverStuck o × IsNeverStuck (erased o))

abbrev pub Warrants : ReportForm → Program → Reply → Type 0
Warrants form o (replies.Answer a) = WarrantsAnswer form o a
Warrants form o (replies.BadValue word) = ⊤
