-- Choices, one after another.
use Rattle.std.proofs.Common.{◌≡◌, ◌∙◌, ℕ, List, [], ◌∷◌, ◌++◌, Vec, ap, append-nil}
use Rattle.std.specs.Global.{Global}
use Rattle.std.proofs.lemmas.Grind.{flat_map-append}
use Rattle.og_lsp_names.specs.Choices.{keyword_in, keywords_in}
use Rattle.og_lsp_names.specs.declared.choosing.Choice.{Choice}
use Rattle.og_lsp_names.specs.declared.choosing.ChoiceKind.TheVariants.{Keyword, Name}
use Rattle.og_lsp_names.specs.declared.declaring.SymbolKind.{SymbolKind}

abbrev keyword : Vec ℕ Global → Choice
keyword label = record { kind = Keyword; label = label }

abbrev name : SymbolKind → Vec ℕ Global → Choice
name kind label = record { kind = Name kind; label = label }

pub keyword_pushed : (old new : List Choice) (label : Vec ℕ Global) → new ≡ old ++ keyword label ∷ [] → keywords_in new ≡ keywords_in old ++ label.items ∷ []
keyword_pushed old new label put = ap keywords_in put ∙ flat_map-append keyword_in old (keyword label ∷ [])

pub name_pushed : (old new : List Choice) (kind : SymbolKind) (label : Vec ℕ Global) → new ≡ old ++ name kind label ∷ [] → keywords_in new ≡ keywords_in old
name_pushed old new kind label put = ap keywords_in put ∙ flat_map-append keyword_in old (name kind label ∷ []) ∙ append-nil (keywords_in old)
