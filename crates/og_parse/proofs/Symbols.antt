-- One symbol, where it comes next and where it does not.
use Rattle.std.proofs.Common.{◌≡◌, true, false, List, [], ◌∷◌, drop, Ok, Err, refl}
use Rattle.std.proofs.lemmas.Bool.{false≢true}
use Rattle.og_text.specs.declared.token.TokenKind.{TokenKind}
use Rattle.og_text.specs.declared.token.Token.{Token}
use Rattle.og_parse.specs.declared.refusal.FaultKind.TheVariants.{Expected}
use Rattle.og_parse.specs.Language.{first_place}
use Rattle.og_parse.specs.Reading.{is_a, starts, symbol_at}

pub symbol_there : (kind : TokenKind) (tokens : List Token) → starts (is_a kind) tokens ≡ true → symbol_at kind tokens ≡ Ok (first_place tokens, drop 1 tokens)
symbol_there kind [] h = absurd (false≢true h)
symbol_there kind (t ∷ ts) h = rw h refl

pub no_symbol : (kind : TokenKind) (tokens : List Token) → starts (is_a kind) tokens ≡ false → symbol_at kind tokens ≡ Err (Expected, tokens)
no_symbol kind [] h = refl
no_symbol kind (t ∷ ts) h = rw h refl
