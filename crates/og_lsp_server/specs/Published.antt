-- What is published of the documents that have changed.
use Rattle.std.specs.Prelude.{◌≡◌, ℕ, ℤ, List, [], ◌∷◌, ◌++◌, Bool, true, false, codes, string_bytes, Option, Some, None, if◌then◌else◌, All}
use Rattle.serde_json.specs.Data.{Data, number, string, object, member, no_members}
use Rattle.serde_json.specs.Find.{of_integer}
use Rattle.og_lsp_message.specs.Answers.{notification_data}
use Rattle.og_lsp_text.specs.declared.encoding.Encoding.{Encoding}
use Rattle.og_lsp_features.specs.Diagnosed.{found_data, IsJudged}
use Rattle.og_lsp_features.specs.Texts.{text_of}
use Rattle.og_lsp_features.specs.declared.document.Document.{Document}
use Rattle.og_lsp_server.specs.declared.documents.Documents.{Documents}

-- these diagnostics of a document, with the version of its text where the client counts them
abbrev pub params_data : List ℕ → Option ℤ → Data → Data
params_data uri None diagnostics = object (member (codes "diagnostics") diagnostics (member (codes "uri") (string uri) no_members))
params_data uri (Some version) diagnostics =
    object (member (codes "diagnostics") diagnostics (member (codes "uri") (string uri) (member (codes "version") (number (of_integer version)) no_members)))

-- the notification of what is found of a document
abbrev pub notice_data : Encoding → Document → Data
notice_data encoding d =
    notification_data (codes "textDocument/publishDiagnostics") (params_data (string_bytes d.uri) d.version (found_data encoding (string_bytes d.uri) (string_bytes d.text) d.judgement))

abbrev pub notices : Encoding → Bool → Document → List Data
notices encoding due d = if due then notice_data encoding d ∷ [] else []

-- one that is due is judged, and told once; no other one is told
pub record IsPublished (encoding : Encoding) (old new : Document) (before after : List Data) : Type 0 where
  pub text : text_of new ≡ text_of old
  pub version : new.version ≡ old.version
  pub settled : new.is_due ≡ false
  pub judged : old.is_due ≡ true → new.judgement ≡ None → ⊥
  pub sound : IsJudged old → IsJudged new
  pub said : after ≡ before ++ notices encoding old.is_due new

-- one after another
abbrev pub ArePublished : Encoding → List Document → List Document → List Data → List Data → Type 0
ArePublished encoding [] [] before after = after ≡ before
ArePublished encoding [] (new ∷ news) before after = ⊥
ArePublished encoding (old ∷ olds) [] before after = ⊥
ArePublished encoding (old ∷ olds) (new ∷ news) before after =
    (mid : List Data) × IsPublished encoding old new before mid × ArePublished encoding olds news mid after

-- what is found of each document is so
abbrev pub AreJudged : Documents → Type 0
AreJudged documents = All IsJudged documents.all.items
