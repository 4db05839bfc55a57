-- What a command answers to a refusal.
use Rattle.std.specs.Prelude.{◌≡◌, ℕ, List, Option, None, Result, Ok, Err}
use Rattle.og_report_text.specs.Faults.{place_of_input}
use Rattle.og_report_text.specs.Answers.{IsFaultAnswer}
use Rattle.og_report_text.specs.declared.answer.Answer.{Answer}
use Rattle.og_pool.specs.declared.fault.PoolFault.{PoolFault}
use Rattle.og_pool.specs.declared.fault.PoolFault.TheVariants as pool
use Rattle.og_judge.specs.declared.refusal.Refusal.{Refusal}
use Rattle.og_judge.specs.declared.refusal.Refusal.TheVariants as refusal

-- the byte offset in the source, where there is one
abbrev pub place_of_refusal : Refusal → Option ℕ
place_of_refusal (refusal.Input fault) = place_of_input fault
place_of_refusal refusal.Spawn = None
place_of_refusal refusal.Memory = None

-- the line of a fault, or memory ran out; refused threads or memory stay what they are
abbrev pub IsAnswered : List ℕ → Refusal → Result Answer PoolFault → Type 0
IsAnswered source (refusal.Input fault) (Ok answer) = IsFaultAnswer source fault answer
IsAnswered source (refusal.Input fault) (Err e) = e ≡ pool.Memory
IsAnswered source refusal.Spawn (Ok answer) = ⊥
IsAnswered source refusal.Spawn (Err e) = e ≡ pool.Spawn
IsAnswered source refusal.Memory (Ok answer) = ⊥
IsAnswered source refusal.Memory (Err e) = e ≡ pool.Memory
