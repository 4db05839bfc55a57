-- The answer of a replay, from the first fault.
use Rattle.std.proofs.Common.{◌≡◌, ℕ, List, Some, None, Err, sym, ◌∙◌, subst}
use Rattle.std.proofs.lemmas.Bool.{false_from_ne_true}
use Rattle.og_facts.specs.Facts.{Fact}
use Rattle.og_cert_text.specs.Tree.{Cert}
use Rattle.og_cert.specs.declared.fault.ReplayFault.{ReplayFault}
use Rattle.og_cert.specs.declared.fault.ReplayError.{ReplayError}
use Rattle.og_cert.specs.declared.fault.ReplayError.TheVariants as errors
use Rattle.og_cert.specs.Closes.{closes}
use Rattle.og_cert.specs.Faults.{first_fault}
use Rattle.og_cert.specs.Answer.{FailsWith, IsReplay}
use Rattle.og_cert.proofs.Faultless.{no_fault}

none_some : (x : ReplayFault) → None ≡ Some x → ⊥
none_some x e = cc

pub replay_fails : (n : ℕ) (fs : List Fact) (c : Cert) (e d : ReplayError) → FailsWith e (first_fault n fs c) → d ≡ e → IsReplay n fs c (Err d)
replay_fails n fs c errors.Memory d h same = subst (λ x. IsReplay n fs c (Err x)) (sym same) tt
replay_fails n fs c (errors.Fault f) d h same =
    subst (λ x. IsReplay n fs c (Err x)) (sym same)
    (false_from_ne_true (closes n fs c) (λ t. none_some f (sym ((no_fault c 1 n fs).0 t) ∙ h)), h)
