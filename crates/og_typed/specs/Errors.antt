-- What an error of a lower crate becomes.
use Rattle.og_text.specs.declared.fault.LexError.{LexError}
use Rattle.og_text.specs.declared.fault.LexError.TheVariants as lex
use Rattle.og_parse.specs.declared.fault.ParseError.{ParseError}
use Rattle.og_parse.specs.declared.fault.ParseError.TheVariants as parse
use Rattle.og_typed.specs.declared.fault.TypeError.{TypeError}
use Rattle.og_typed.specs.declared.fault.TypeError.TheVariants as resolve
use Rattle.og_typed.specs.declared.source_fault.SourceFault.TheVariants as faults
use Rattle.og_typed.specs.declared.source_fault.SourceError.{SourceError}
use Rattle.og_typed.specs.declared.source_fault.SourceError.TheVariants as errors

abbrev pub of_lex : LexError → SourceError
of_lex (lex.Fault fault) = errors.Fault (faults.Lex fault)
of_lex lex.Memory = errors.Memory

abbrev pub of_parse : ParseError → SourceError
of_parse (parse.Fault fault) = errors.Fault (faults.Parse fault)
of_parse parse.Memory = errors.Memory

abbrev pub of_type : TypeError → SourceError
of_type (resolve.Fault fault) = errors.Fault (faults.Resolve fault)
of_type resolve.Memory = errors.Memory
