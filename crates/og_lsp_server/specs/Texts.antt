-- The texts of the open documents.
use Rattle.std.specs.Prelude.{◌≡◌, ℕ, List, map, Result, Ok, Err}
use Rattle.serde_json.specs.View.{view}
use Rattle.og_lsp_message.specs.Calls.{kind_of}
use Rattle.og_lsp_message.specs.declared.message.Kind.TheVariants.{Request}
use Rattle.og_lsp_message.specs.declared.message.Message.{Message}
use Rattle.og_lsp_message.specs.declared.message.MessageError.{MessageError}
use Rattle.og_lsp_features.specs.Texts.{text_of}
use Rattle.og_lsp_server.specs.declared.documents.Documents.{Documents}

-- the name and the text of each, in the order in which they were opened
abbrev pub texts_of : Documents → List (List ℕ × List ℕ)
texts_of documents = map text_of documents.all.items

-- no request changes them
abbrev pub KeepsTexts : Result Message MessageError → Documents → Documents → Type 0
KeepsTexts (Ok message) old new = kind_of (view message.value) ≡ Request → texts_of new ≡ texts_of old
KeepsTexts (Err e) old new = texts_of new ≡ texts_of old
