-- Why a source has no outline.
use Rattle.std.specs.Prelude.{◌≡◌, ℕ, ◌≤◌, List, Err, ⊤}
use Rattle.og_text.specs.declared.token.Token.{Token}
use Rattle.og_text.specs.Cut.{AreTokensOf}
use Rattle.og_text.specs.Refused.{IsFaultOf}
use Rattle.og_parse.specs.Trees.{Outline}
use Rattle.og_parse.specs.Grammar.{IsOutline}
use Rattle.og_parse.specs.Faults.{IsFault}
use Rattle.og_parse.specs.Limits.{level_limit, statement_limit, statement_count}
use Rattle.og_typed.specs.Resolved.{resolved}
use Rattle.og_typed.specs.declared.source_fault.SourceFault.{SourceFault}
use Rattle.og_typed.specs.declared.source_fault.SourceFault.TheVariants as faults
use Rattle.og_typed.specs.declared.source_fault.SourceError.{SourceError}
use Rattle.og_typed.specs.declared.source_fault.SourceError.TheVariants as errors

-- the first fault: it is not cut; or it is, but its tokens stand for no tree; or they do, but the names of the tree are not resolved
abbrev pub IsSourceFault : List ℕ → SourceFault → Type 0
IsSourceFault source (faults.Lex fault) = IsFaultOf source fault
IsSourceFault source (faults.Parse fault) =
    (tokens : List Token) × AreTokensOf source tokens × IsFault level_limit statement_limit tokens fault
IsSourceFault source (faults.Resolve fault) =
    (tokens : List Token) × (tree : Outline) × AreTokensOf source tokens × IsOutline level_limit tree tokens
    × (statement_count tokens ≤ statement_limit) × (resolved tree ≡ Err fault)

-- that fault, or memory ran out
abbrev pub IsNotRead : List ℕ → SourceError → Type 0
IsNotRead source (errors.Fault fault) = IsSourceFault source fault
IsNotRead source errors.Memory = ⊤
