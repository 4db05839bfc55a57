-- A cut that goes on by one piece.
use Rattle.std.proofs.Common.{◌≡◌, ℕ, ◌+◌, ◌≤◌, ◌^◌, List, [], ◌∷◌, ◌++◌, length, take, drop, ◌-◌, arith, sym, ap, subst, ◌∙◌, refl, add_assoc, zero-add, add-zero, length-drop}
use Rattle.std.proofs.lemmas.List.{drop-drop, take_all}
use Rattle.og_text.specs.declared.token.Token.{Token}
use Rattle.og_text.specs.declared.token.TokenKind.{TokenKind}
use Rattle.og_text.specs.declared.front.Front.{Front}
use Rattle.og_text.specs.declared.front.Front.TheVariants as fronts
use Rattle.og_text.specs.Cut.{Piece, White, Comment, Lexeme, bytes_of, BeginsWith, IsLongest, IsCut, tokens_of, IsSmall, AreSmall}
use Rattle.og_text.specs.Refused.{length_of}
use Rattle.og_text.specs.Fronts.{IsGap, IsFront}

-- the tokens of the cut so far, which gets to a place over small pieces
pub record SoFar (text : List ℕ) (at : ℕ) (tokens : List Token) : Type 0 where
  pub short : length text ≤ 2 ^ 20
  pub inside : at ≤ length text
  pub pieces : List Piece
  pub cut : IsCut text pieces (drop at text)
  pub small : AreSmall pieces
  pub lexemes : tokens ≡ tokens_of 0 pieces
  pub place : at ≡ length_of pieces

cut_more : (pieces : List Piece) (text mid : List ℕ) (piece : Piece) (rest : List ℕ) → IsCut text pieces mid → BeginsWith mid piece rest → IsLongest mid piece → IsCut text (pieces ++ piece ∷ []) rest
cut_more [] text mid piece rest e begins longest = rw e (rest, begins, longest, refl)
cut_more (p ∷ ps) text mid piece rest cut begins longest = (cut.0, cut.1, cut.2, cut_more ps cut.0 mid piece rest cut.3 begins longest)

small_more : (pieces : List Piece) (piece : Piece) → AreSmall pieces → IsSmall piece → AreSmall (pieces ++ piece ∷ [])
small_more [] piece h k = (k, tt)
small_more (p ∷ ps) piece h k = (h.0, small_more ps piece h.1 k)

length_more : (pieces : List Piece) (piece : Piece) → length_of (pieces ++ piece ∷ []) ≡ length_of pieces + length (bytes_of piece)
length_more [] piece = omega arith
length_more (p ∷ ps) piece = omega (arith, length_more ps piece)

-- a gap adds no lexeme
gap_more : (at : ℕ) (pieces : List Piece) (piece : Piece) → IsGap piece → tokens_of at (pieces ++ piece ∷ []) ≡ tokens_of at pieces
gap_more at [] (White bytes) g = refl
gap_more at [] (Comment bytes) g = refl
gap_more at [] (Lexeme kind bytes) g = absurd g
gap_more at (White bytes ∷ ps) piece g = gap_more (at + length bytes) ps piece g
gap_more at (Comment bytes ∷ ps) piece g = gap_more (at + length bytes) ps piece g
gap_more at (Lexeme kind bytes ∷ ps) piece g = ap (λ (ts : List Token). record { kind = kind; span = record { start = at; end = at + length bytes } } ∷ ts) (gap_more (at + length bytes) ps piece g)

-- the token of a kind from one offset to another
abbrev pub token_of : TokenKind → ℕ → ℕ → Token
token_of kind from to = record { kind = kind; span = record { start = from; end = to } }

token_more : (at : ℕ) (pieces : List Piece) (kind : TokenKind) (bytes : List ℕ) → tokens_of at (pieces ++ Lexeme kind bytes ∷ []) ≡ tokens_of at pieces ++ token_of kind (at + length_of pieces) (at + length_of pieces + length bytes) ∷ []
token_more at [] kind bytes = rw add-zero refl
token_more at (White w ∷ ps) kind bytes = rw (token_more (at + length w) ps kind bytes, add_assoc at (length w) (length_of ps)) refl
token_more at (Comment w ∷ ps) kind bytes = rw (token_more (at + length w) ps kind bytes, add_assoc at (length w) (length_of ps)) refl
token_more at (Lexeme k w ∷ ps) kind bytes = rw (token_more (at + length w) ps kind bytes, add_assoc at (length w) (length_of ps)) refl

gap_small : (piece : Piece) → IsGap piece → IsSmall piece
gap_small (White bytes) g = tt
gap_small (Comment bytes) g = tt
gap_small (Lexeme kind bytes) g = absurd g

-- the cut goes on over white space or a comment
pub past_gap : (text : List ℕ) (at n : ℕ) (tokens : List Token) → SoFar text at tokens → IsFront (drop at text) (fronts.Gap n) → SoFar text (at + n) tokens
past_gap text at n tokens s f = record {
  short = s.short;
  inside = omega (arith, s.inside, f.4, length-drop at text);
  pieces = s.pieces ++ f.0 ∷ [];
  cut = cut_more s.pieces text (drop at text) f.0 (drop (at + n) text) s.cut (subst (λ (z : List ℕ). BeginsWith (drop at text) f.0 z) (drop-drop n at text) f.1.begins) f.1.longest;
  small = small_more s.pieces f.0 s.small (gap_small f.0 f.2);
  lexemes = s.lexemes ∙ sym (gap_more 0 s.pieces f.0 f.2);
  place = omega (arith, s.place, f.3, length_more s.pieces f.0);
}

-- the cut goes on over a lexeme
pub past_lexeme : (text : List ℕ) (at n : ℕ) (tokens : List Token) (kind : TokenKind) → SoFar text at tokens → IsFront (drop at text) (fronts.Lexeme kind n) → SoFar text (at + n) (tokens ++ token_of kind at (at + n) ∷ [])
past_lexeme text at n tokens kind s f = record {
  short = s.short;
  inside = omega (arith, s.inside, f.4, length-drop at text);
  pieces = s.pieces ++ Lexeme kind f.0 ∷ [];
  cut = cut_more s.pieces text (drop at text) (Lexeme kind f.0) (drop (at + n) text) s.cut (subst (λ (z : List ℕ). BeginsWith (drop at text) (Lexeme kind f.0) z) (drop-drop n at text) f.1.begins) f.1.longest;
  small = small_more s.pieces (Lexeme kind f.0) s.small f.2;
  lexemes = rw (s.lexemes, s.place, f.3) (sym (rw zero-add at (token_more 0 s.pieces kind f.0)));
  place = omega (arith, s.place, f.3, length_more s.pieces (Lexeme kind f.0));
}

-- the rest of a text as a range
pub front_rest : (text : List ℕ) (at : ℕ) (f : Front) → IsFront (take (length text - at) (drop at text)) f → IsFront (drop at text) f
front_rest text at f h = subst (λ (z : List ℕ). IsFront z f) (take_all (length text - at) (drop at text) (omega (arith, length-drop at text))) h
