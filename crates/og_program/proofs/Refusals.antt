-- From why a command has no answer to the refusal of its input.
use Rattle.std.proofs.Common.{◌≡◌, ◌⊎◌, ◌∙◌, sym, subst, inl, inr, ℕ, List, [], Result, IfOk}
use Rattle.std.specs.Prelude.{IfSome}
use Rattle.std.proofs.lemmas.Result.{IfOk-weaker}
use Rattle.og_typed.specs.Syntax.{Program}
use Rattle.og_typed.specs.Shown.{ReadSource}
use Rattle.og_typed.specs.Source.{IsSource}
use Rattle.og_typed.specs.Refused.{IsSourceFault, IsNotRead}
use Rattle.og_typed.specs.declared.source_fault.SourceFault.{SourceFault}
use Rattle.og_typed.specs.declared.source_fault.SourceError.{SourceError}
use Rattle.og_typed.specs.declared.source_fault.SourceError.TheVariants as sources
use Rattle.og_report_text.specs.InputErrors.{OnFault, IsFaultOfSource, IsFaultOfCount, IsFaultOfConditions}
use Rattle.og_report_text.specs.declared.fault.InputFault.{InputFault}
use Rattle.og_report_text.specs.declared.fault.InputFault.TheVariants as faults
use Rattle.og_report_text.specs.declared.input_error.InputError.{InputError}
use Rattle.og_report_text.specs.declared.input_error.InputError.TheVariants as errors
use Rattle.og_judge.specs.Errors.{of_source, of_input}
use Rattle.og_judge.specs.NotJudged.{OnInput, AreNotFound, IsNotJudged}
use Rattle.og_judge.specs.declared.refusal.Refusal.{Refusal}
use Rattle.og_judge.specs.declared.refusal.Refusal.TheVariants as refusals
use Rattle.og_report_refusal.specs.Advice.{IsKnown}
use Rattle.og_command_check.specs.Inputs.{source_of}
use Rattle.og_program.specs.World.{World, Text, named, bytes_in, OfSource}
use Rattle.og_program.specs.Beside.{IsRefused, Refuses}
use Rattle.og_program.specs.Commands.{OfOutline}
use Rattle.og_program.specs.declared.fault.Fault.{Fault}
use Rattle.og_program.specs.declared.outcome.Outcome.{Outcome}

-- ---- of an error

-- of a source that was not read
source_refusal : (source : List ℕ) (error : SourceError) → IsNotRead source error → OnInput (IsFaultOfSource source) (of_source error)
source_refusal source (sources.Fault fault) why = why
source_refusal source sources.Memory why = tt

input_refusal : (P : InputFault → Type 0) (error : InputError) → OnFault P error → OnInput P (of_input error)
input_refusal P (errors.Fault fault) why = why
input_refusal P errors.Memory why = tt

pub of_source_error : (source : List ℕ) (error : SourceError) (refusal : Refusal) → refusal ≡ of_source error → IsNotRead source error → OnInput (IsFaultOfSource source) refusal
of_source_error source error refusal is why =
    subst (OnInput (IsFaultOfSource source)) (sym is) (source_refusal source error why)

pub of_input_error : (P : InputFault → Type 0) (error : InputError) (refusal : Refusal) → refusal ≡ of_input error → OnFault P error → OnInput P refusal
of_input_error P error refusal is why = subst (OnInput P) (sym is) (input_refusal P error why)

-- neither is a refused thread
source_spawns : (error : SourceError) → of_source error ≡ refusals.Spawn → ⊥
source_spawns (sources.Fault fault) is = cc
source_spawns sources.Memory is = cc

input_spawns : (error : InputError) → of_input error ≡ refusals.Spawn → ⊥
input_spawns (errors.Fault fault) is = cc
input_spawns errors.Memory is = cc

pub no_source_spawns : (error : SourceError) (refusal : Refusal) → refusal ≡ of_source error → refusal ≡ refusals.Spawn → ⊥
no_source_spawns error refusal is spawn = source_spawns error (sym is ∙ spawn)

pub no_input_spawns : (error : InputError) (refusal : Refusal) → refusal ≡ of_input error → refusal ≡ refusals.Spawn → ⊥
no_input_spawns error refusal is spawn = input_spawns error (sym is ∙ spawn)

-- ---- what is known of a fault

-- that of a source is its first
pub known : (P : InputFault → Type 0) (source : List ℕ) (refusal : Refusal) → ((fault : SourceFault) → P (faults.Source fault) → IsSourceFault source fault)
    → OnInput P refusal → OnInput (IsKnown source) refusal
known P source (refusals.Input (faults.Source fault)) first why = first fault why
known P source (refusals.Input (faults.Conditions fault)) first why = tt
known P source (refusals.Input (faults.Certs fault)) first why = tt
known P source (refusals.Input (faults.Stray n)) first why = tt
known P source refusals.Spawn first why = tt
known P source refusals.Memory first why = tt

-- nor is that of too many conditions that of a source
pub count_known : (o : Program) (source : List ℕ) (refusal : Refusal) → OnInput (IsFaultOfCount o) refusal → OnInput (IsKnown source) refusal
count_known o source refusal why = known (IsFaultOfCount o) source refusal (λ fault no. absurd no) why

-- ---- of an outline

-- too many conditions
counted : (source : List ℕ) (o : Program) (fault : InputFault) → IsSource source o → IsFaultOfCount o fault → IsFaultOfConditions source fault
counted source o (faults.Source fault) is why = absurd why
counted source o (faults.Conditions fault) is why = (o, is, why)
counted source o (faults.Certs fault) is why = absurd why
counted source o (faults.Stray n) is why = absurd why

pub fault_counted : (source : List ℕ) (o : Program) (error : InputError) → IsSource source o → OnFault (IsFaultOfCount o) error → OnFault (IsFaultOfConditions source) error
fault_counted source o (errors.Fault fault) is why = counted source o fault is why
fault_counted source o errors.Memory is why = tt

pub refusal_counted : (source : List ℕ) (o : Program) (refusal : Refusal) → IsSource source o → OnInput (IsFaultOfCount o) refusal → OnInput (IsFaultOfConditions source) refusal
refusal_counted source o (refusals.Input fault) is why = counted source o fault is why
refusal_counted source o refusals.Spawn is why = tt
refusal_counted source o refusals.Memory is why = tt

-- too many conditions, or a fault of certificates
pub judged : (source certs : List ℕ) (o : Program) (refusal : Refusal) → IsSource source o → AreNotFound certs o refusal → IsNotJudged source certs refusal
judged source certs o (refusals.Input (faults.Source fault)) is why = absurd why
judged source certs o (refusals.Input (faults.Conditions fault)) is why = (o, is, why)
judged source certs o (refusals.Input (faults.Certs fault)) is why = (o, is, why)
judged source certs o (refusals.Input (faults.Stray n)) is why = (o, is, why)
judged source certs o refusals.Spawn is why = tt
judged source certs o refusals.Memory is why = tt

-- ---- the outcome

refuses_one : (F : InputFault → Type 0) (source : Text) (certs : List ℕ) (refusal : Refusal) (outcome : Outcome) → OnInput F refusal → IsRefused source certs refusal outcome → Refuses F source certs outcome
refuses_one F source certs (refusals.Input fault) outcome why is = (fault, why, is)
refuses_one F source certs refusals.Spawn outcome why is = absurd is
refuses_one F source certs refusals.Memory outcome why is = absurd is

pub refuses : (F : InputFault → Type 0) (source : Text) (certs : List ℕ) (refusal : Refusal) (r : Result Outcome Fault) → OnInput F refusal
    → IfOk r (IsRefused source certs refusal) → IfOk r (Refuses F source certs)
refuses F source certs refusal r why =
    IfOk-weaker r (IsRefused source certs refusal) (Refuses F source certs) (λ outcome. refuses_one F source certs refusal outcome why)

-- of the bytes that were read
of_bytes : (world : World) (name : List ℕ) (P : Text → Type 0) (read given : List ℕ) → IfSome (bytes_in world name) (λ all. read ≡ source_of all)
    → given ≡ read → P (named name given) → OfSource world name P
of_bytes world name P read given text same h =
    (read, text, subst (λ (bytes : List ℕ). P (named name bytes)) same h)

-- a source and its outline
pub of_outline : (world : World) (name : List ℕ) (P : Text → Program → Outcome → Type 0) (read given : List ℕ) (source : ReadSource) (outcome : Outcome)
    → IfSome (bytes_in world name) (λ all. read ≡ source_of all) → given ≡ read → source.bytes ≡ given → IsSource given source.outline
    → P (named name source.bytes) source.outline outcome → OfOutline world name P outcome
of_outline world name P read given source outcome text same bytes is h = (
  read,
  text,
  inl (
    source.outline,
    subst (λ (b : List ℕ). IsSource b source.outline) same is,
    subst (λ (b : List ℕ). P (named name b) source.outline outcome) (bytes ∙ same) h,
  ),
)

-- or the refusal for its first fault
pub not_outline : (world : World) (name : List ℕ) (P : Text → Program → Outcome → Type 0) (read given : List ℕ) (r : Result Outcome Fault)
    → IfSome (bytes_in world name) (λ all. read ≡ source_of all) → given ≡ read
    → IfOk r (Refuses (IsFaultOfSource given) (named name given) []) → IfOk r (OfOutline world name P)
not_outline world name P read given r text same =
    IfOk-weaker r (Refuses (IsFaultOfSource given) (named name given) []) (OfOutline world name P)
    (λ outcome h. of_bytes world name (λ source. ((o : Program) × IsSource source.bytes o × P source o outcome) ⊎ Refuses (IsFaultOfSource source.bytes) source [] outcome) read given text same (inr h))

-- of bytes that were read: the refusal for a fault of them
pub refused_read : (world : World) (name : List ℕ) (F : List ℕ → InputFault → Type 0) (P : Text → Outcome → Type 0) (read given : List ℕ) (refusal : Refusal) (r : Result Outcome Fault)
    → IfSome (bytes_in world name) (λ all. read ≡ source_of all) → given ≡ read → OnInput (F given) refusal → IfOk r (IsRefused (named name given) [] refusal)
    → IfOk r (λ outcome. OfSource world name (λ source. P source outcome ⊎ Refuses (F source.bytes) source [] outcome))
refused_read world name F P read given refusal r text same why is =
    IfOk-weaker r (Refuses (F given) (named name given) []) (λ outcome. OfSource world name (λ source. P source outcome ⊎ Refuses (F source.bytes) source [] outcome))
    (λ outcome h. of_bytes world name (λ source. P source outcome ⊎ Refuses (F source.bytes) source [] outcome) read given text same (inr h))
    (refuses (F given) (named name given) [] refusal r why is)
