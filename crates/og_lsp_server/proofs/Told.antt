-- Documents of which it is published what is found.
use Rattle.std.proofs.Common.{◌≡◌, ◌∙◌, List, [], ◌∷◌, ◌++◌, Bool, true, false, append-nil}
use Rattle.std.specs.Prelude.{codes, string_bytes}
use Rattle.serde_json.specs.Data.{Data}
use Rattle.og_lsp_text.specs.declared.encoding.Encoding.{Encoding}
use Rattle.og_lsp_features.specs.Diagnosed.{found_data}
use Rattle.og_lsp_features.specs.declared.document.Document.{Document}
use Rattle.og_lsp_server.specs.Published.{params_data, notices, ArePublished}
use Rattle.og_lsp_server.specs.Replies.{AddsNotifications}
use Rattle.og_lsp_server.proofs.Notices.{adds_same, adds_one, adds_more}

one_told : (encoding : Encoding) (due : Bool) (d : Document) (before after : List Data) → after ≡ before ++ notices encoding due d → AddsNotifications before after
one_told encoding true d before after e =
    adds_one before after (codes "textDocument/publishDiagnostics") (params_data (string_bytes d.uri) d.version (found_data encoding (string_bytes d.uri) (string_bytes d.text) d.judgement)) e
one_told encoding false d before after e = adds_same before after (e ∙ append-nil before)

-- notifications alone are added
pub all_told : (encoding : Encoding) (olds news : List Document) (before after : List Data) → ArePublished encoding olds news before after → AddsNotifications before after
all_told encoding [] [] before after p = adds_same before after p
all_told encoding [] (n ∷ ns) before after p = absurd p
all_told encoding (o ∷ os) [] before after p = absurd p
all_told encoding (o ∷ os) (n ∷ ns) before after p = adds_more before p.0 after (one_told encoding o.is_due n before p.0 p.1.said) (all_told encoding os ns p.0 after p.2)
