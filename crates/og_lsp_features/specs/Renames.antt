-- A name of a text gets another name.
use Rattle.std.specs.Prelude.{◌≡◌, ℕ, ◌<◌, ◌≤◌, List, [], length, false, Some, None, if◌then◌else◌}
use Rattle.std.specs.Str.{bytes_eq}
use Rattle.serde_json.specs.Data.{Data}
use Rattle.og_template.specs.Front.{is_template}
use Rattle.og_template.specs.declared.word.Word.{Word}
use Rattle.og_text.specs.declared.place.Span.{Span}
use Rattle.og_lsp_names.specs.Names.{AreWordsOrNone, IsNameFault, last_name, spans_named}
use Rattle.og_lsp_text.specs.Positions.{line_of, IsPlaceOf}
use Rattle.og_lsp_text.specs.declared.encoding.Encoding.{Encoding}
use Rattle.og_lsp_text.specs.declared.position.Position.{Position}
use Rattle.og_lsp_features.specs.Values.{edits_data, changes_data}

-- the byte offset that a position names; the text's end where it has no such line
pub record IsNamedBy (encoding : Encoding) (text : List ℕ) (position : Position) (at : ℕ) : Type 0 where
  pub found : position.line ≤ line_of text (length text) → IsPlaceOf encoding text position at
  pub behind : line_of text (length text) < position.line → at ≡ length text

-- the words that are the name, which may be given the new one; none where that is the same
abbrev pub renamed_spans : List ℕ → List ℕ → List Word → List Span
renamed_spans name new words = if bytes_eq name new then [] else spans_named name words

pub record IsRenaming (text : List ℕ) (words : List Word) (name new : List ℕ) (spans : List Span) : Type 0 where
  pub spans_are : spans ≡ renamed_spans name new words
  pub may : bytes_eq name new ≡ false → IsNameFault (is_template text) words new None

-- the edits turn each word of the text that is the name at the position, and nothing else
pub record IsRenamed (encoding : Encoding) (uri text : List ℕ) (position : Position) (new : List ℕ) (d : Data) : Type 0 where
  pub at : ℕ
  pub place : IsNamedBy encoding text position at
  pub words : List Word
  pub are : AreWordsOrNone text words
  pub name : List ℕ
  pub here : Span
  pub there : last_name at words ≡ Some (name, here)
  pub spans : List Span
  pub renaming : IsRenaming text words name new spans
  pub edits : d ≡ changes_data uri (edits_data encoding text new spans)
