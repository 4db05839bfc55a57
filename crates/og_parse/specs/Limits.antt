-- The limits of an outline, and how many statements its tokens have.
use Rattle.std.specs.Prelude.{ℕ, ◌+◌, Bool, true, false, ◌&&◌, List, [], ◌∷◌, if◌then◌else◌}
use Rattle.og_text.specs.declared.token.TokenKind.{TokenKind}
use Rattle.og_text.specs.declared.token.TokenKind.TheVariants as kinds
use Rattle.og_text.specs.declared.token.Token.{Token}

-- levels of assertions, and levels of statements
unfoldable pub level_limit : ℕ
level_limit = 100

-- statements outside the bodies of awaits
unfoldable pub statement_limit : ℕ
statement_limit = 4096

abbrev pub begins_statement : TokenKind → Bool
begins_statement (kinds.Name bytes) = true
begins_statement kinds.Skip = true
begins_statement kinds.If = true
begins_statement kinds.While = true
begins_statement kinds.Await = true
begins_statement _ = false

abbrev pub closes_note : TokenKind → Bool
closes_note kinds.CloseBrace = true
closes_note _ = false

-- in tokens that stand after a '}', or don't
abbrev pub statements_after : Bool → List Token → ℕ
statements_after closed [] = 0
statements_after closed (token ∷ tokens) = (if closed && begins_statement token.kind then 1 else 0) + statements_after (closes_note token.kind) tokens

abbrev pub statement_count : List Token → ℕ
statement_count tokens = statements_after false tokens
