-- The methods that requests may call.
use Rattle.std.specs.Prelude.{ℕ, List, [], ◌∷◌, codes, Option}
use Rattle.std.specs.Str.{bytes_eq}
use Rattle.std.specs.List.{find}
use Rattle.og_lsp_server.specs.declared.method.Method.{Method}
use Rattle.og_lsp_server.specs.declared.method.Method.TheVariants.{Initialize, Shutdown, Formatting, CodeLens, Hover, DocumentSymbol, Definition, References, DocumentHighlight, PrepareRename, Rename, Completion, CodeAction}

-- its name in the protocol
abbrev pub method_name : Method → List ℕ
method_name Initialize = codes "initialize"
method_name Shutdown = codes "shutdown"
method_name Formatting = codes "textDocument/formatting"
method_name CodeLens = codes "textDocument/codeLens"
method_name Hover = codes "textDocument/hover"
method_name DocumentSymbol = codes "textDocument/documentSymbol"
method_name Definition = codes "textDocument/definition"
method_name References = codes "textDocument/references"
method_name DocumentHighlight = codes "textDocument/documentHighlight"
method_name PrepareRename = codes "textDocument/prepareRename"
method_name Rename = codes "textDocument/rename"
method_name Completion = codes "textDocument/completion"
method_name CodeAction = codes "textDocument/codeAction"

abbrev pub all_methods : List Method
all_methods = Initialize ∷ Shutdown ∷ Formatting ∷ CodeLens ∷ Hover ∷ DocumentSymbol ∷ Definition ∷ References ∷ DocumentHighlight ∷ PrepareRename ∷ Rename ∷ Completion ∷ CodeAction ∷ []

-- the method of a name
abbrev pub method_named : List ℕ → Option Method
method_named name = find (λ m. bytes_eq (method_name m) name) all_methods
