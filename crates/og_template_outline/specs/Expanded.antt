-- The promise of an answer.
use Rattle.std.specs.Prelude.{◌≡◌, ℕ, ◌≤◌, List, [], Bool, true, false, ◌++◌, Some, codes, if◌then◌else◌}
use Rattle.og_text.specs.declared.token.Token.{Token}
use Rattle.og_parse.specs.Trees.{Outline}
use Rattle.og_parse.specs.Grammar.{IsOutline}
use Rattle.og_parse.specs.Limits.{level_limit, statement_limit, statement_count}
use Rattle.og_print.specs.Plain.{plain}
use Rattle.og_print.specs.Print.{outline_text}
use Rattle.og_typed.specs.Syntax.{Program}
use Rattle.og_typed.specs.Source.{IsSource}
use Rattle.og_typed.specs.declared.source_fault.SourceFault.TheVariants as sources
use Rattle.og_report_text.specs.declared.fault.InputFault.TheVariants as inputs
use Rattle.og_report_text.specs.declared.answer.Answer.{Answer}
use Rattle.og_report_text.specs.Line.{opening_text, place_text, refused_line}
use Rattle.og_report_text.specs.Answers.{Says}
use Rattle.og_template.specs.Faults.{number_of_kind, name_of_kind}
use Rattle.og_template.specs.Front.{is_template}
use Rattle.og_template_outline.specs.Faults.{number_of_fault, name_of_fault}
use Rattle.og_template_outline.specs.declared.fault.ExpandFault.{ExpandFault}
use Rattle.og_template_outline.specs.declared.fault.ExpandFault.TheVariants as faults

-- the tokens stand for a tree, which is this one apart from its places
pub record IsAgain (tree : Outline) (tokens : List Token) (again : Outline) : Type 0 where
  pub parsed : IsOutline level_limit again tokens
  pub few : statement_count tokens ≤ statement_limit
  pub same : plain tree ≡ plain again

-- the text of a tree; it is that of an outline, whose tree is this one apart from its places
pub record IsOutlineText (text : List ℕ) : Type 0 where
  pub tree : Outline
  pub printed : text ≡ outline_text tree
  pub outline : Program
  pub source : IsSource text outline
  pub same : plain tree ≡ plain source.tree

-- the text printed of a template: that of an outline, or the map, of which nothing is promised
abbrev pub IsPrinted : Bool → List ℕ → Type 0
IsPrinted true text = Unit {0}
IsPrinted false text = IsOutlineText text

-- a refusal at a place of the template
abbrev pub placed_line : List ℕ → ℕ → List ℕ → ℕ → List ℕ
placed_line source number name at = opening_text number name ++ place_text source (Some at)

abbrev pub unplaced_line : ℕ → List ℕ → List ℕ
unplaced_line number name = opening_text number name ++ codes "\n"

abbrev pub fault_line : List ℕ → ExpandFault → List ℕ
fault_line source (faults.Words fault) = refused_line source (inputs.Source (sources.Lex fault))
fault_line source (faults.Template fault) = placed_line source (number_of_kind fault.kind) (name_of_kind fault.kind) fault.at
fault_line source (faults.Outline fault) = refused_line source (inputs.Source (sources.Resolve fault))
fault_line source faults.ExpansionTooLong = unplaced_line (number_of_fault faults.ExpansionTooLong) (name_of_fault faults.ExpansionTooLong)
fault_line source faults.NotReadBack = unplaced_line (number_of_fault faults.NotReadBack) (name_of_fault faults.NotReadBack)

-- the line of this fault, with status 2
abbrev pub IsFaultAnswer : List ℕ → ExpandFault → Answer → Type 0
IsFaultAnswer source fault a = Says (fault_line source fault) 2 a

pub record HasOutline (text : List ℕ) : Type 0 where
  pub outline : Program
  pub source : IsSource text outline

-- of a template: the text printed of it; of an outline: its bytes, or no map
abbrev pub IsExpandedBy : Bool → Bool → List ℕ → Answer → Type 0
IsExpandedBy true is_map text a = IsPrinted is_map a.text.items × (a.status ≡ 0)
IsExpandedBy false is_map text a = HasOutline text × Says (if is_map then [] else text) 0 a

-- by the first word of the text
abbrev pub IsExpanded : Bool → List ℕ → Answer → Type 0
IsExpanded is_map text a = IsExpandedBy (is_template text) is_map text a

-- ---- about a text

-- of a template P holds of the text of an outline that it means, of any other text of itself
abbrev pub HoldsBy : Bool → (List ℕ → Type 0) → List ℕ → Type 0
HoldsBy true P text = (own : List ℕ) × IsOutlineText own × P own
HoldsBy false P text = P text

abbrev pub HoldsOf : (List ℕ → Type 0) → List ℕ → Type 0
HoldsOf P text = HoldsBy (is_template text) P text
