-- Tokens that have a value.
use Rattle.std.specs.Prelude.{ℕ, Option, Some, None}
use Rattle.og_text.specs.declared.place.Span.{Span}
use Rattle.og_text.specs.declared.token.TokenKind.{TokenKind}
use Rattle.og_text.specs.declared.token.TokenKind.TheVariants as kinds
use Rattle.og_text.specs.declared.token.Token.{Token}
use Rattle.og_parse.specs.Trees.{RawName, Sign, Plus, Minus, Relation}
use Rattle.og_parse.specs.declared.raw.Relation.TheVariants as relations

-- a name, with its place
abbrev pub name_kind : Span → TokenKind → Option RawName
name_kind span (kinds.Name bytes) = Some (record { name = bytes; span = span })
name_kind span _ = None

abbrev pub name_of : Token → Option RawName
name_of token = name_kind token.span token.kind

abbrev pub number_kind : TokenKind → Option ℕ
number_kind (kinds.Number n) = Some n
number_kind _ = None

abbrev pub value_of : Token → Option ℕ
value_of token = number_kind token.kind

-- the sign between two terms
abbrev pub sign_kind : TokenKind → Option Sign
sign_kind kinds.Plus = Some Plus
sign_kind kinds.Minus = Some Minus
sign_kind _ = None

abbrev pub sign_of : Token → Option Sign
sign_of token = sign_kind token.kind

abbrev pub relation_kind : TokenKind → Option Relation
relation_kind kinds.LessEqual = Some relations.LessEqual
relation_kind kinds.Less = Some relations.Less
relation_kind kinds.GreaterEqual = Some relations.GreaterEqual
relation_kind kinds.Greater = Some relations.Greater
relation_kind kinds.Equal = Some relations.Equal
relation_kind kinds.NotEqual = Some relations.NotEqual
relation_kind _ = None

abbrev pub relation_of : Token → Option Relation
relation_of token = relation_kind token.kind
