-- Which fault is reported.
use Rattle.std.proofs.Common.{◌≡◌, refl, Result, IfErr}
use Rattle.std.proofs.lemmas.Result.{IfErr-weaker}
use Rattle.og_pool.specs.declared.fault.PoolFault.{PoolFault}
use Rattle.og_pool.specs.declared.fault.PoolFault.TheVariants as pool
use Rattle.og_program.specs.Opened.{FileNames}
use Rattle.og_program.specs.Failing.{IsWant, IsFault, of_pool}
use Rattle.og_program.specs.declared.fault.Fault.{Fault}
use Rattle.og_program.specs.declared.fault.Fault.TheVariants as faults
use Rattle.og_program.specs.declared.outcome.Outcome.{Outcome}

-- refused memory, or a refused thread
pub by_pool : (S : Type 0) (fault : PoolFault) → (fault ≡ pool.Spawn → S) → IsWant S (of_pool fault)
by_pool S pool.Memory spawns = tt
by_pool S pool.Spawn spawns = spawns refl

-- a want is a fault, whatever files are opened
fault_of : (files : FileNames) (S T : Type 0) (fault : Fault) → (S → T) → IsWant S fault → IsFault files T fault
fault_of files S T (faults.NotRead name why) leads want = absurd want
fault_of files S T (faults.NotWritten why) leads want = absurd want
fault_of files S T faults.Memory leads want = tt
fault_of files S T faults.Spawn leads want = leads want

pub wants : (files : FileNames) (S T : Type 0) (r : Result Outcome Fault) → (S → T) → IfErr r (IsWant S) → IfErr r (IsFault files T)
wants files S T r leads = IfErr-weaker r (IsWant S) (IsFault files T) (λ fault. fault_of files S T fault leads)

want_of : (S T : Type 0) (fault : Fault) → (S → T) → IsWant S fault → IsWant T fault
want_of S T (faults.NotRead name why) leads want = want
want_of S T (faults.NotWritten why) leads want = want
want_of S T faults.Memory leads want = tt
want_of S T faults.Spawn leads want = leads want

pub wants_else : (S T : Type 0) (r : Result Outcome Fault) → (S → T) → IfErr r (IsWant S) → IfErr r (IsWant T)
wants_else S T r leads = IfErr-weaker r (IsWant S) (IsWant T) (λ fault. want_of S T fault leads)
