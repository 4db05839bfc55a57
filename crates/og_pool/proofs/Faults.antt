-- The faults of shared work.
use Rattle.std.proofs.Common.{◌≡◌, ◌⊎◌, inl, inr, Result, Ok, Err, IfErr, subst}
use Rattle.og_pool.specs.declared.thread_fault.ThreadFault.{ThreadFault}
use Rattle.og_pool.specs.declared.thread_fault.ThreadFault.TheVariants.{Memory}

pub fault_of_gain : {G : Type 0} (F : ThreadFault → Type 0) (gain : Result G ThreadFault) (added : Result (Unit {0}) ThreadFault) → IfErr gain F
    → IfErr added (λ e. (e ≡ Memory) ⊎ (gain ≡ Err e)) → IfErr added (λ e. (e ≡ Memory) ⊎ F e)
fault_of_gain F gain (Ok _) of answered = tt
fault_of_gain F gain (Err e) of (inl memory) = inl memory
fault_of_gain F gain (Err e) of (inr same) = inr (subst (λ r. IfErr r F) same of)
