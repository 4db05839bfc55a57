-- The error that one of a template or of a source becomes.
use Rattle.og_typed.specs.declared.source_fault.SourceError.{SourceError}
use Rattle.og_typed.specs.declared.source_fault.SourceError.TheVariants as sources
use Rattle.og_template_outline.specs.declared.fault.ExpandError.{ExpandError}
use Rattle.og_template_outline.specs.declared.fault.ExpandError.TheVariants as expanding
use Rattle.og_template_outline.specs.declared.fault.MeaningError.{MeaningError}
use Rattle.og_template_outline.specs.declared.fault.MeaningError.TheVariants as errors

abbrev pub of_template : ExpandError → MeaningError
of_template expanding.Memory = errors.Memory
of_template (expanding.Fault fault) = errors.Template fault

abbrev pub of_source : SourceError → MeaningError
of_source sources.Memory = errors.Memory
of_source (sources.Fault fault) = errors.Source fault
