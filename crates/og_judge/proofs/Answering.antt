-- What a command answers to a refusal.
use Rattle.std.proofs.Common.{◌≡◌, ℕ, ◌<◌, List, Result, Ok, Err, IfOk, IfErr, refl}
use Rattle.og_report_text.specs.declared.answer.Answer.{Answer}
use Rattle.og_pool.specs.declared.fault.PoolFault.{PoolFault}
use Rattle.og_pool.specs.declared.fault.PoolFault.TheVariants as pool
use Rattle.og_judge.specs.Answered.{IsAnswered}
use Rattle.og_judge.specs.declared.refusal.Refusal.{Refusal}
use Rattle.og_judge.specs.declared.refusal.Refusal.TheVariants as refusal

-- an answer to a refusal has status 2
pub refusal_status : (source : List ℕ) (why : Refusal) (r : Result Answer PoolFault) → IsAnswered source why r → IfOk r (λ a. a.status ≡ 2)
refusal_status source (refusal.Input fault) (Ok a) answered = answered.1
refusal_status source (refusal.Input fault) (Err e) answered = tt
refusal_status source refusal.Spawn (Ok a) answered = absurd answered
refusal_status source refusal.Spawn (Err e) answered = tt
refusal_status source refusal.Memory (Ok a) answered = absurd answered
refusal_status source refusal.Memory (Err e) answered = tt

-- a thread that could not be started is the cause of that refusal alone
pub refusal_spawn : (source : List ℕ) (n : ℕ) (why : Refusal) (r : Result Answer PoolFault) → IsAnswered source why r
    → (why ≡ refusal.Spawn → 1 < n) → IfErr r (λ e. e ≡ pool.Spawn → 1 < n)
refusal_spawn source n (refusal.Input fault) (Ok a) answered several = tt
refusal_spawn source n (refusal.Input fault) (Err e) answered several = λ is. absurd (cc)
refusal_spawn source n refusal.Spawn (Ok a) answered several = tt
refusal_spawn source n refusal.Spawn (Err e) answered several = λ is. several refl
refusal_spawn source n refusal.Memory (Ok a) answered several = tt
refusal_spawn source n refusal.Memory (Err e) answered several = λ is. absurd (cc)
