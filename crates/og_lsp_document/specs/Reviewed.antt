-- What a reviewer is told of an outline besides its conditions.
use Rattle.std.specs.Prelude.{◌≡◌, ℕ, List, [], ◌∷◌, ◌++◌, slice_get}
use Rattle.std.specs.List.{AllZip}
use Rattle.og_text.specs.declared.place.Span.{Span}
use Rattle.og_template.specs.declared.word.Word.{Word}
use Rattle.og_typed.specs.Syntax.{Program}
use Rattle.og_report_text.specs.Listing.{name_text}
use Rattle.og_report_text.specs.Origins.{Rows}
use Rattle.og_review_text.specs.Hidden as hidden
use Rattle.og_review_text.specs.Unused as unused
use Rattle.og_review_text.specs.declared.hidden.Hidden.{Hidden}
use Rattle.og_review_text.specs.declared.unused.Unused.{Unused}
use Rattle.og_lsp_names.specs.Names.{AreWordsOrNone, spans_named}
use Rattle.og_lsp_diagnostics.specs.Extents.{part_span, place_in, word_span}
use Rattle.og_lsp_diagnostics.specs.Remarked.{IsInformation, AreOfRemarks}
use Rattle.og_lsp_diagnostics.specs.declared.diagnostic.Diagnostic.{Diagnostic}

-- the word where the first of these places begins, or else these bytes
abbrev pub first_word_or : List ℕ → Span → List Span → Span
first_word_or text other [] = other
first_word_or text other (span ∷ spans) = word_span text span.start

-- the first word of a text that is the name, which is where it is declared, or else these bytes
abbrev pub name_span : List ℕ → Span → List Word → List ℕ → Span
name_span text other words name = first_word_or text other (spans_named name words)

-- that a variable is unused is said at its name
abbrev pub IsOfUnused : List ℕ → Span → List Word → List (List ℕ) → Unused → Diagnostic → Type 0
IsOfUnused text other words names u =
    IsInformation (name_span text other words (name_text (slice_get names u.var))) (unused.message names u)

-- a character that may hide text is told where it stands, or where its comment begins
abbrev pub IsOfHidden : List ℕ → Hidden → Diagnostic → Type 0
IsOfHidden text h = IsInformation (word_span text h.at) (hidden.message h)

-- of each unused variable; of a name that the text does not have, at `cobegin`
pub record AreOfUnused (text : List ℕ) (rows : Rows) (o : Program) (ds : List Diagnostic) : Type 0 where
  pub words : List Word
  pub are : AreWordsOrNone text words
  pub each : AllZip (IsOfUnused text (part_span text (place_in rows o.cobegin_at)) words o.names) (unused.unused_variables o) ds

-- what it claims of no run, these variables, and characters that may hide text
pub record AreReviewed (text : List ℕ) (rows : Rows) (o : Program) (ds : List Diagnostic) : Type 0 where
  pub claims : List Diagnostic
  pub are_claims : AreOfRemarks text rows o claims
  pub variables : List Diagnostic
  pub are_variables : AreOfUnused text rows o variables
  pub characters : List Diagnostic
  pub are_characters : AllZip (IsOfHidden text) (hidden.hidden_characters text) characters
  pub all : ds ≡ claims ++ (variables ++ characters)
