-- The line of a refusal.
use Rattle.std.specs.Prelude.{ℕ, List, [], Option, None}
use Rattle.og_report_text.specs.Faults.{place_of_input}
use Rattle.og_report_text.specs.Line.{refused_line}
use Rattle.og_judge.specs.declared.refusal.Refusal.{Refusal}
use Rattle.og_judge.specs.declared.refusal.Refusal.TheVariants as refusal

-- the byte offset in the source, where there is one
abbrev pub place_of_refusal : Refusal → Option ℕ
place_of_refusal (refusal.Input fault) = place_of_input fault
place_of_refusal refusal.Spawn = None
place_of_refusal refusal.Memory = None

-- the line; refused threads or memory have none
abbrev pub refusal_text : List ℕ → Refusal → List ℕ
refusal_text source (refusal.Input fault) = refused_line source fault
refusal_text source refusal.Spawn = []
refusal_text source refusal.Memory = []
