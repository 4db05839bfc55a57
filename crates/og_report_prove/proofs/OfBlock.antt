-- The finding on a condition that is false, by its block.
use Rattle.std.proofs.Common.{subst, sym}
use Rattle.std.specs.Prelude.{Result, Ok, Err, IfOk}
use Rattle.std.specs.declared.alloc.AllocError.{AllocError}
use Rattle.og_report_explain.specs.declared.unexplained.Unexplained.{Unexplained}
use Rattle.og_report_explain.specs.declared.unexplained.Unexplained.TheVariants as unexplained
use Rattle.og_report_prove.specs.Diagnosis.{IsOfBlock}
use Rattle.og_report_prove.specs.declared.block.Block.{Block}
use Rattle.og_report_prove.specs.declared.diagnosis.Diagnosis.{Diagnosis}
use Rattle.og_report_prove.specs.declared.diagnosis.Diagnosis.TheVariants as diagnosis

-- what holds of the block of a false one, and of an open one
pub by_block : (P : Diagnosis → Type 0) (r : Result Block Unexplained) (s : Result Diagnosis AllocError) → IfOk r (λ b. P (diagnosis.False b)) → P diagnosis.Open → IfOk s (IsOfBlock r)
    → IfOk s P
by_block P (Ok b) (Ok t) false_one open_one same = subst P (sym same) false_one
by_block P (Ok b) (Err e) false_one open_one same = same
by_block P (Err unexplained.Open) (Ok t) false_one open_one same = subst P (sym same) open_one
by_block P (Err unexplained.Open) (Err e) false_one open_one same = same
by_block P (Err unexplained.Memory) (Ok t) false_one open_one same = absurd same
by_block P (Err unexplained.Memory) (Err e) false_one open_one same = same

-- what two facts of a result say together
pub both : {X E : Type 0} (r : Result X E) (P Q R : X → Type 0) → ((x : X) → P x → Q x → R x) → IfOk r P → IfOk r Q → IfOk r R
both (Ok x) P Q R join p q = join x p q
both (Err e) P Q R join p q = p
