-- What an answer, and a writer that was given it, promise of the runs of an outline.
use Rattle.std.specs.Prelude.{◌≡◌, Bool}
use Rattle.og_typed.specs.Syntax.{Program}
use Rattle.og_typed.specs.Erase.{erased}
use Rattle.og_theorem.specs.Sound.{IsSound, IsSoundErased}
use Rattle.og_theorem.specs.NeverStuck.{IsNeverStuck}
use Rattle.og_report_text.specs.Yes.{SaysUnblocked}
use Rattle.og_report_text.specs.declared.answer.Answer.{Answer}

-- by status 0, and by a text that says that the outline is unblocked
abbrev pub Promises : Bool → Program → Answer → Type 0
Promises json o answer =
    (answer.status ≡ 0 → IsSound o × IsSoundErased o)
    × (answer.status ≡ 0
    → SaysUnblocked json answer.text.items → IsNeverStuck o × IsNeverStuck (erased o))
