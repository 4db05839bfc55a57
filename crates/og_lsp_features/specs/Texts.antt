-- The text of a document.
use Rattle.std.specs.Prelude.{ℕ, List, string_bytes}
use Rattle.og_lsp_features.specs.declared.document.Document.{Document}

-- its name and its text
abbrev pub text_of : Document → List ℕ × List ℕ
text_of document = (string_bytes document.uri, string_bytes document.text)
