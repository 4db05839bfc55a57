-- What an error of a command says of its input.
use Rattle.std.specs.Prelude.{◌<◌, ℕ, List, length, ⊤}
use Rattle.og_typed.specs.Syntax.{Program}
use Rattle.og_typed.specs.Source.{IsSource}
use Rattle.og_typed.specs.Refused.{IsSourceFault}
use Rattle.og_typed.specs.declared.source_fault.SourceError.{SourceError}
use Rattle.og_typed.specs.declared.source_fault.SourceError.TheVariants as source
use Rattle.og_cond.specs.Conditions.{conditions as conditions_of}
use Rattle.og_cond.specs.Limits.{condition_limit}
use Rattle.og_cond.specs.declared.fault.ConditionsError.{ConditionsError}
use Rattle.og_cond.specs.declared.fault.ConditionsError.TheVariants as conditions
use Rattle.og_cert_text.specs.declared.fault.CertTextError.{CertTextError}
use Rattle.og_cert_text.specs.declared.fault.CertTextError.TheVariants as certs
use Rattle.og_report_text.specs.declared.fault.InputFault.{InputFault}
use Rattle.og_report_text.specs.declared.fault.InputFault.TheVariants as faults
use Rattle.og_report_text.specs.declared.input_error.InputError.{InputError}
use Rattle.og_report_text.specs.declared.input_error.InputError.TheVariants as errors

-- ---- the error that one of a lower crate becomes

abbrev pub of_source : SourceError → InputError
of_source (source.Fault fault) = errors.Fault (faults.Source fault)
of_source source.Memory = errors.Memory

abbrev pub of_conditions : ConditionsError → InputError
of_conditions (conditions.Fault fault) = errors.Fault (faults.Conditions fault)
of_conditions conditions.Memory = errors.Memory

abbrev pub of_certs : CertTextError → InputError
of_certs (certs.Fault fault) = errors.Fault (faults.Certs fault)
of_certs certs.Memory = errors.Memory

-- ---- what it says

-- P of the fault; refused memory says nothing
abbrev pub OnFault : (InputFault → Type 0) → InputError → Type 0
OnFault P (errors.Fault fault) = P fault
OnFault P errors.Memory = ⊤

-- the source has no outline, and this is its first fault
abbrev pub IsFaultOfSource : List ℕ → InputFault → Type 0
IsFaultOfSource source (faults.Source fault) = IsSourceFault source fault
IsFaultOfSource source _ = ⊥

-- the outline has too many conditions
abbrev pub IsFaultOfCount : Program → InputFault → Type 0
IsFaultOfCount o (faults.Conditions fault) = condition_limit < length (conditions_of o)
IsFaultOfCount o _ = ⊥

-- the source has no outline, or its outline has too many conditions
abbrev pub IsFaultOfConditions : List ℕ → InputFault → Type 0
IsFaultOfConditions source (faults.Source fault) = IsSourceFault source fault
IsFaultOfConditions source (faults.Conditions fault) =
    (o : Program) × IsSource source o × (condition_limit < length (conditions_of o))
IsFaultOfConditions source _ = ⊥
