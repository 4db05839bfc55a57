-- Reading from left to right, with the first fault that is met.
use Rattle.std.specs.Prelude.{ℕ, zero, suc, Bool, false, ◌==◌, ◌||◌, List, [], ◌∷◌, length, Result, Ok, Err, Option, Some, None, if◌then◌else◌}
use Rattle.og_text.specs.Kinds.{number_of}
use Rattle.og_text.specs.declared.token.TokenKind.{TokenKind}
use Rattle.og_text.specs.declared.token.Token.{Token}
use Rattle.og_text.specs.declared.place.Span.{Span}
use Rattle.og_parse.specs.declared.refusal.FaultKind.{FaultKind}
use Rattle.og_parse.specs.declared.refusal.FaultKind.TheVariants.{Expected, TooDeep}
use Rattle.og_parse.specs.Language.{Placed, first_place}

-- a fault, and the tokens from the one on where it stands
abbrev pub Stop : Type 0
Stop = FaultKind × List Token

-- a value and the tokens after it
abbrev pub Outcome : Type 0 → Type 0
Outcome X = Result (X × List Token) Stop

abbrev pub Reader : Type 0 → Type 0
Reader X = List Token → Outcome X

infixl 10 ◌>>=◌
abbrev pub ◌>>=◌ : {A B : Type 0} → Result A Stop → (A → Result B Stop) → Result B Stop
(Ok x) >>= f = f x
(Err e) >>= f = Err e

-- ---- tests of the number of a kind

abbrev pub nothing : ℕ → Bool
nothing n = false

abbrev pub is_a : TokenKind → ℕ → Bool
is_a kind n = n == number_of kind

-- one test or another
abbrev pub or : (ℕ → Bool) → (ℕ → Bool) → ℕ → Bool
or a b n = a n || b n

-- the tokens begin with one whose kind passes
abbrev pub starts : (ℕ → Bool) → List Token → Bool
starts test [] = false
starts test (token ∷ tokens) = test (number_of token.kind)

-- ---- one token

abbrev pub symbol_at : TokenKind → Reader Span
symbol_at kind [] = Err (Expected, [])
symbol_at kind (token ∷ tokens) = if number_of token.kind == number_of kind then Ok (token.span, tokens) else Err (Expected, token ∷ tokens)

-- what a token is read as
abbrev pub taken : {X : Type 0} → Option X → List Token → List Token → Outcome X
taken None tokens rest = Err (Expected, tokens)
taken (Some x) tokens rest = Ok (x, rest)

abbrev pub token_at : {X : Type 0} → (Token → Option X) → Reader X
token_at value [] = Err (Expected, [])
token_at value (token ∷ tokens) = taken (value token) (token ∷ tokens) tokens

-- nothing follows
abbrev pub end_at : {X : Type 0} → X → Reader X
end_at x [] = Ok (x, [])
end_at x (token ∷ tokens) = Err (Expected, token ∷ tokens)

-- a part, and nothing else
abbrev pub whole_at : {X : Type 0} → Reader X → Reader X
whole_at read tokens = read tokens >>= λ x. end_at x.0 x.1

-- no level is left to open
abbrev pub shut_at : {X : Type 0} → Reader X
shut_at tokens = Err (TooDeep, tokens)

-- ---- several parts

-- as many as begin with a token that passes, at most n
abbrev pub some_at : {X : Type 0} → (ℕ → Bool) → Reader X → ℕ → Reader (List X)
some_at test each zero tokens = Ok ([], tokens)
some_at test each (suc n) tokens =
    if starts test tokens then (each tokens >>= λ x. some_at test each n x.1 >>= λ xs. Ok (x.0 ∷ xs.0, xs.1))
    else Ok ([], tokens)

abbrev pub many_at : {X : Type 0} → (ℕ → Bool) → Reader X → Reader (List X)
many_at test each tokens = some_at test each (length tokens) tokens

abbrev pub after_at : {X : Type 0} → TokenKind → Reader X → Reader X
after_at kind each tokens = symbol_at kind tokens >>= λ at. each at.1

abbrev pub separated_at : {X : Type 0} → TokenKind → Reader X → Reader (List X)
separated_at kind each tokens = do
  first ← each tokens
  others ← many_at (is_a kind) (after_at kind each) first.1
  Ok (first.0 ∷ others.0, others.1)

abbrev pub if_symbol_at : {X : Type 0} → TokenKind → Reader X → Reader (Option X)
if_symbol_at kind part tokens =
    if starts (is_a kind) tokens then (after_at kind part tokens >>= λ x. Ok (Some x.0, x.1))
    else Ok (None, tokens)

abbrev pub with_place_at : {X : Type 0} → Reader X → Reader (Placed X)
with_place_at read tokens = read tokens >>= λ x. Ok (record { place = first_place tokens; value = x.0 }, x.1)
