-- The number and the name of a refusal.
use Rattle.std.specs.Prelude.{ℕ, List, Option, Some, None, codes}
use Rattle.og_report_text.specs.Faults.{number_of_input, name_of_input}
use Rattle.og_judge.specs.declared.refusal.Refusal.{Refusal}
use Rattle.og_judge.specs.declared.refusal.Refusal.TheVariants as refusal

abbrev pub number_of_refusal : Refusal → Option ℕ
number_of_refusal (refusal.Input fault) = Some (number_of_input fault)
number_of_refusal refusal.Spawn = Some 40
number_of_refusal refusal.Memory = None

abbrev pub name_of_refusal : Refusal → List ℕ
name_of_refusal (refusal.Input fault) = name_of_input fault
name_of_refusal refusal.Spawn = codes "Spawn"
name_of_refusal refusal.Memory = codes "Memory"
