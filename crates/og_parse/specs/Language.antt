-- Relations between values and the lists of tokens that stand for them.
use Rattle.std.specs.Prelude.{◌≡◌, Bool, true, false, List, [], ◌∷◌, ◌++◌, ◌⊎◌, Option, Some, None}
use Rattle.og_text.specs.declared.token.TokenKind.{TokenKind}
use Rattle.og_text.specs.declared.token.Token.{Token}
use Rattle.og_text.specs.declared.place.Span.{Span}

abbrev pub Language : Type 0 → Type 1
Language X = X → List Token → Type 0

-- one keyword or symbol, which gives its place
abbrev pub Symbol : TokenKind → Language Span
Symbol kind span tokens = (token : Token) × (tokens ≡ token ∷ []) × (token.kind ≡ kind) × (span ≡ token.span)

-- one token, with the value that it has
abbrev pub One : {X : Type 0} → (Token → Option X) → Language X
One value x tokens = (token : Token) × (tokens ≡ token ∷ []) × (value token ≡ Some x)

-- no token, and one value
abbrev pub Gives : {X : Type 0} → X → Language X
Gives x y tokens = (y ≡ x) × (tokens ≡ [])

-- nothing
abbrev pub Never : {X : Type 0} → Language X
Never value tokens = ⊥

-- one part, and then a part that may depend on its value
pub record Then {A B : Type 0} (first : Language A) (second : A → Language B) (value : B) (tokens : List Token) : Type 0 where
  pub head : A
  pub front : List Token
  pub back : List Token
  pub parts : tokens ≡ front ++ back
  pub is_first : first head front
  pub is_second : second head value back

infixl 10 ◌>>=◌
abbrev pub ◌>>=◌ : {A B : Type 0} → Language A → (A → Language B) → Language B
(first >>= second) value tokens = Then first second value tokens

-- either of two
abbrev pub Either : {X : Type 0} → Language X → Language X → Language X
Either one other value tokens = one value tokens ⊎ other value tokens

-- this one, where it is allowed
abbrev pub Allowed : {X : Type 0} → Bool → Language X → Language X
Allowed true is = is
Allowed false is = Never

-- any number, one after the other
abbrev pub Many : {X : Type 0} → Language X → Language (List X)
Many each [] tokens = tokens ≡ []
Many each (x ∷ xs) tokens = (front back : List Token) × (tokens ≡ front ++ back) × each x front × Many each xs back

-- a symbol, and then a part
abbrev pub After : {X : Type 0} → TokenKind → Language X → Language X
After kind each = do
  at ← Symbol kind
  each

-- a keyword or symbol that stands for a value
abbrev pub Word : {X : Type 0} → TokenKind → X → Language X
Word kind x = After kind (Gives x)

-- a part, with another value made of its value
abbrev pub Map : {A B : Type 0} → (A → B) → Language A → Language B
Map f each = each >>= λ x. Gives (f x)

-- a part, and then a symbol
abbrev pub Before : {X : Type 0} → Language X → TokenKind → Language X
Before each kind = each >>= λ x. Word kind x

-- a part between two symbols
abbrev pub Between : {X : Type 0} → TokenKind → Language X → TokenKind → Language X
Between left each right = After left (Before each right)

-- one part or more, with a symbol between any two
abbrev pub Separated : {X : Type 0} → TokenKind → Language X → Language (List X)
Separated kind each = do
  first ← each
  others ← Many (After kind each)
  Gives (first ∷ others)

-- a part after a symbol, which gives Some, or no token, which gives None
abbrev pub IfSymbol : {X : Type 0} → TokenKind → Language X → Language (Option X)
IfSymbol kind part = Either (Map Some (After kind part)) (Gives None)

-- a value, and the place of the first token that stands for it
pub record Placed (X : Type 0) : Type 0 where
  pub place : Span
  pub value : X

abbrev pub first_place : List Token → Span
first_place [] = record { start = 0; end = 0 }
first_place (token ∷ tokens) = token.span

abbrev pub WithPlace : {X : Type 0} → Language X → Language (Placed X)
WithPlace is x tokens = is x.value tokens × (x.place ≡ first_place tokens)
