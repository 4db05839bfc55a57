-- The refusal that an error of a lower crate becomes.
use Rattle.og_typed.specs.declared.source_fault.SourceError.{SourceError}
use Rattle.og_typed.specs.declared.source_fault.SourceError.TheVariants as source
use Rattle.og_cond.specs.declared.fault.ConditionsError.{ConditionsError}
use Rattle.og_cond.specs.declared.fault.ConditionsError.TheVariants as conditions
use Rattle.og_cert_text.specs.declared.fault.CertTextError.{CertTextError}
use Rattle.og_cert_text.specs.declared.fault.CertTextError.TheVariants as certs
use Rattle.og_pool.specs.declared.fault.PoolFault.{PoolFault}
use Rattle.og_pool.specs.declared.fault.PoolFault.TheVariants as pool
use Rattle.og_report_text.specs.declared.fault.InputFault.TheVariants as faults
use Rattle.og_report_text.specs.declared.input_error.InputError.{InputError}
use Rattle.og_report_text.specs.declared.input_error.InputError.TheVariants as input
use Rattle.og_judge.specs.declared.refusal.Refusal.{Refusal}
use Rattle.og_judge.specs.declared.refusal.Refusal.TheVariants as refusal

abbrev pub of_source : SourceError → Refusal
of_source (source.Fault fault) = refusal.Input (faults.Source fault)
of_source source.Memory = refusal.Memory

abbrev pub of_conditions : ConditionsError → Refusal
of_conditions (conditions.Fault fault) = refusal.Input (faults.Conditions fault)
of_conditions conditions.Memory = refusal.Memory

abbrev pub of_certs : CertTextError → Refusal
of_certs (certs.Fault fault) = refusal.Input (faults.Certs fault)
of_certs certs.Memory = refusal.Memory

abbrev pub of_input : InputError → Refusal
of_input (input.Fault fault) = refusal.Input fault
of_input input.Memory = refusal.Memory

abbrev pub of_pool : PoolFault → Refusal
of_pool pool.Spawn = refusal.Spawn
of_pool pool.Memory = refusal.Memory
