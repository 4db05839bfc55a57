-- The finding on a condition.
use Rattle.std.specs.Prelude.{◌≡◌, ℤ, List, [], ◌∷◌, ⊤, Result, Ok, Err}
use Rattle.og_typed.specs.Syntax.{Program}
use Rattle.og_cond.specs.Condition.{Condition}
use Rattle.og_cond.specs.Valid.{IsValid}
use Rattle.og_find.specs.Found.{IsFalseAt}
use Rattle.og_find.specs.declared.verdict.Verdict.{Verdict}
use Rattle.og_find.specs.declared.verdict.Verdict.TheVariants as verdicts
use Rattle.og_report_explain.specs.Explanations.{AreAllowed, IsExplained}
use Rattle.og_report_explain.specs.declared.unexplained.Unexplained.{Unexplained}
use Rattle.og_report_explain.specs.declared.unexplained.Unexplained.TheVariants as unexplained
use Rattle.og_report_prove.specs.Numbers.{fault_numbers}
use Rattle.og_report_prove.specs.declared.block.Block.{Block}
use Rattle.og_report_prove.specs.declared.diagnosis.Diagnosis.{Diagnosis}
use Rattle.og_report_prove.specs.declared.diagnosis.Diagnosis.TheVariants as diagnosis

-- the condition is false in the state of the block, and the rest of the block is right
pub record IsBlock (o : Program) (c : Condition) (block : Block) : Type 0 where
  pub is_false : IsFalseAt c block.values
  pub explained : IsExplained o c block.values block.details.value.explanation
  pub kind : block.details.value.kind ≡ c.kind
  pub conjuncts : block.details.value.conjuncts.items ≡ fault_numbers block.details.value.explanation.after block.details.value.explanation.fault

-- proved: true in every state; false: in the state of the finding
abbrev pub IsDiagnosis : Program → Condition → Diagnosis → Type 0
IsDiagnosis o c diagnosis.Proved = IsValid c
IsDiagnosis o c (diagnosis.False block) = IsBlock o c block
IsDiagnosis o c diagnosis.Open = ⊤

-- of each condition, one for one
abbrev pub AreDiagnoses : Program → List Condition → List Diagnosis → Type 0
AreDiagnoses o [] [] = ⊤
AreDiagnoses o [] (t ∷ ts) = ⊥
AreDiagnoses o (c ∷ cs) [] = ⊥
AreDiagnoses o (c ∷ cs) (t ∷ ts) = IsDiagnosis o c t × AreDiagnoses o cs ts

-- false with this block, or open where there is no explanation; refused memory gives no finding
abbrev pub IsOfBlock : Result Block Unexplained → Diagnosis → Type 0
IsOfBlock (Ok block) t = t ≡ diagnosis.False block
IsOfBlock (Err unexplained.Open) t = t ≡ diagnosis.Open
IsOfBlock (Err unexplained.Memory) t = ⊥

-- false in this state, or open
abbrev pub IsOfState : List ℤ → Diagnosis → Type 0
IsOfState s diagnosis.Proved = ⊥
IsOfState s (diagnosis.False block) = block.values ≡ s
IsOfState s diagnosis.Open = ⊤

-- where it says where processes stand, the assertion at each place is true
abbrev pub IsAllowed : Program → Diagnosis → Type 0
IsAllowed o diagnosis.Proved = ⊤
IsAllowed o (diagnosis.False block) = AreAllowed o block.values block.details.value.explanation.fault
IsAllowed o diagnosis.Open = ⊤

-- proved exactly where the verdict is that the condition is true; a state in the finding is the verdict's
abbrev pub Follows : Verdict → Diagnosis → Type 0
Follows (verdicts.True cert) t = t ≡ diagnosis.Proved
Follows (verdicts.False s) t = IsOfState s t
Follows verdicts.Open t = t ≡ diagnosis.Open
