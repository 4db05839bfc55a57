-- The cut of a text that is put together from lexemes and white space.
use Rattle.std.proofs.Common.{◌≡◌, ℕ, suc, ◌+◌, ◌*◌, ◌-◌, ◌/◌, ◌%◌, ◌≤◌, ◌<◌, ◌^◌, Bool, true, false, ◌&&◌, eqb, List, [], ◌∷◌, ◌++◌, length, Some, None, arith, refl, sym, ap, subst, ◌∙◌}
use Rattle.std.specs.Prelude.{not}
use Rattle.std.specs.Fmt.{decimal}
use Rattle.std.specs.List.{prefix_len}
use Rattle.std.proofs.lemmas.Fmt.{decimal_by_steps}
use Rattle.std.proofs.lemmas.Bool.Decides.{nat_tests}
use Rattle.og_text.specs.Lexemes.{is_white, is_digit, is_letter, is_word_byte, Each, IsRun, value_from, value_of, Spells, keyword_of, IsWord, IsNumber}
use Rattle.og_text.specs.Fronts.{single_of, pair_of}
use Rattle.og_text.specs.Cut.{Piece, White, Comment, Lexeme, IsCut, IsSmall, AreSmall, tokens_of, AreTokensOf}
use Rattle.og_text.specs.declared.token.TokenKind.{TokenKind}
use Rattle.og_text.specs.declared.token.TokenKind.TheVariants as kinds
use Rattle.og_text.specs.declared.token.Token.{Token}
use Rattle.og_text.proofs.Pieces.{longest_len, symbol_len, is_longest, letter_apart, digit_apart}
use Rattle.og_print.specs.Print.{spelling, kinds_of}
use Rattle.og_print.proofs.Reprint.{IsGood, AreGood}

-- ---- the lexemes of a cut

abbrev pub kinds_in : List Piece → List TokenKind
kinds_in [] = []
kinds_in (White bytes ∷ pieces) = kinds_in pieces
kinds_in (Comment bytes ∷ pieces) = kinds_in pieces
kinds_in (Lexeme kind bytes ∷ pieces) = kind ∷ kinds_in pieces

pub kinds_of-tokens : (at : ℕ) (pieces : List Piece) → kinds_of (tokens_of at pieces) ≡ kinds_in pieces
kinds_of-tokens at [] = refl
kinds_of-tokens at (White bytes ∷ pieces) = kinds_of-tokens (at + length bytes) pieces
kinds_of-tokens at (Comment bytes ∷ pieces) = kinds_of-tokens (at + length bytes) pieces
kinds_of-tokens at (Lexeme kind bytes ∷ pieces) = ap (λ (ks : List TokenKind). kind ∷ ks) (kinds_of-tokens (at + length bytes) pieces)

spelled_good : (kind : TokenKind) (bytes : List ℕ) → Spells kind bytes → IsSmall (Lexeme kind bytes) → IsGood kind
spelled_good (kinds.Name n) bytes spells small =
    let P : List ℕ → Type 0 = λ (z : List ℕ). IsWord z × (keyword_of z ≡ None) × (length z ≤ 64) in
    subst P (sym spells.2) (spells.0, spells.1, small)
spelled_good (kinds.Number n) bytes spells small = small
spelled_good kind bytes spells small = tt

cut_good : (text : List ℕ) (pieces : List Piece) → IsCut text pieces [] → AreSmall pieces → AreGood (kinds_in pieces)
cut_good text [] cut small = tt
cut_good text (White bytes ∷ pieces) cut small = cut_good cut.0 pieces cut.3 small.1
cut_good text (Comment bytes ∷ pieces) cut small = cut_good cut.0 pieces cut.3 small.1
cut_good text (Lexeme kind bytes ∷ pieces) cut small = (spelled_good kind bytes cut.1.is_piece small.0, cut_good cut.0 pieces cut.3 small.1)

-- the names and numbers of a source are good
pub source_good : (text : List ℕ) (tokens : List Token) → AreTokensOf text tokens → AreGood (kinds_of tokens)
source_good text tokens are =
    let same : kinds_in are.pieces ≡ kinds_of tokens = sym (kinds_of-tokens 0 are.pieces) ∙ ap kinds_of (sym are.lexemes) in
    subst AreGood same (cut_good text are.pieces are.cut are.small)

-- ---- numbers as they are written

each_push : (p : ℕ → Bool) (xs : List ℕ) (x : ℕ) → Each p xs → p x ≡ true → Each p (xs ++ x ∷ [])
each_push p [] x h e = (e, tt)
each_push p (y ∷ ys) x h e = (h.0, each_push p ys x h.1 e)

number_push : (xs : List ℕ) (x : ℕ) → IsNumber xs → is_digit x ≡ true → IsNumber (xs ++ x ∷ [])
number_push [] x h e = absurd h
number_push (y ∷ ys) x h e = (h.0, each_push is_digit ys x h.1 e)

value_from-push : (n : ℕ) (xs : List ℕ) (x : ℕ) → value_from n (xs ++ x ∷ []) ≡ 10 * value_from n xs + (x - 48)
value_from-push n [] x = refl
value_from-push n (y ∷ ys) x = value_from-push (10 * n + (y - 48)) ys x

abbrev IsDecimal : ℕ → List ℕ → Type 0
IsDecimal n digits = IsNumber digits × (n ≡ value_of digits)

digit_byte : (d : ℕ) → d < 10 → is_digit (48 + d) ≡ true
digit_byte d lt = grind (arith, nat_tests)

decimal_one : (n : ℕ) → n < 10 → IsDecimal n ((48 + n) ∷ [])
decimal_one n lt = ((digit_byte n lt, tt), omega arith)

decimal_more : (n : ℕ) (ds : List ℕ) → 10 ≤ n → IsDecimal (n / 10) ds → IsDecimal n (ds ++ ((48 + n % 10) ∷ []))
decimal_more n ds le h =
    let small : n % 10 < 10 = omega arith in
    (number_push ds (48 + n % 10) h.0 (digit_byte (n % 10) small), omega (arith, value_from-push 0 ds (48 + n % 10), h.1))

pub decimal_is : (n : ℕ) → n ≤ 2 ^ 63 → IsDecimal n (decimal n)
decimal_is n le = decimal_by_steps IsDecimal decimal_one decimal_more n (omega arith)

pub spells : (kind : TokenKind) → IsGood kind → Spells kind (spelling kind)
spells (kinds.Name n) is = (is.0, is.1, refl)
spells (kinds.Number n) is = decimal_is n is
spells kind is = refl

small_spelling : (kind : TokenKind) → IsGood kind → IsSmall (Lexeme kind (spelling kind))
small_spelling (kinds.Name n) is = is.2
small_spelling (kinds.Number n) is = is
small_spelling kinds.Var is = omega arith
small_spelling kind is = omega arith

-- ---- what may stand after a lexeme

abbrev pub first_of : List ℕ → ℕ
first_of [] = 10
first_of (b ∷ bs) = b

-- a byte that goes on with no lexeme before it
abbrev pub is_apart : ℕ → Bool
is_apart b = not (is_word_byte b) && (not (eqb b 61) && not (eqb b 62))

-- the first bytes that pass end where one does not
prefix_none : (p : ℕ → Bool) (text : List ℕ) → p (first_of text) ≡ false → prefix_len p text ≡ 0
prefix_none p [] e = refl
prefix_none p (b ∷ bs) e = rw e refl

prefix_all : (p : ℕ → Bool) (xs text : List ℕ) → Each p xs → prefix_len p text ≡ 0 → prefix_len p (xs ++ text) ≡ length xs
prefix_all p [] text h e = e
prefix_all p (x ∷ xs) text h e = let rest = prefix_all p xs text h.1 e in rw h.0 (omega arith)

apart_word : (b : ℕ) → is_apart b ≡ true → is_word_byte b ≡ false
apart_word b h = grind (arith, nat_tests)

word_digit : (b : ℕ) → is_word_byte b ≡ false → is_digit b ≡ false
word_digit b h = grind (arith, nat_tests)

letter_word : (b : ℕ) → is_letter b ≡ true → is_word_byte b ≡ true
letter_word b h = rw h refl

-- the bytes that are no part of a symbol of two bytes
apart_61 : (b : ℕ) → is_apart b ≡ true → eqb b 61 ≡ false
apart_61 b h = grind (arith, nat_tests)

pub apart_62 : (b : ℕ) → is_apart b ≡ true → eqb b 62 ≡ false
apart_62 b h = grind (arith, nat_tests)

-- what may stand after a lexeme of this kind
abbrev pub Ends : TokenKind → List ℕ → Type 0
Ends kinds.Minus text = eqb (first_of text) 62 ≡ false
Ends kinds.OpenParen text = Unit {0}
Ends kinds.OpenBrace text = Unit {0}
Ends kinds.Star text = Unit {0}
Ends kind text = is_apart (first_of text) ≡ true

word_longest : (bytes text : List ℕ) → IsRun is_letter is_word_byte bytes → prefix_len is_word_byte text ≡ 0 → longest_len (bytes ++ text) ≤ length bytes
word_longest [] text h e = absurd h
word_longest (b ∷ bs) text h e = let a = letter_apart b h.0 in rw (a.0, a.1, h.0) (omega (arith, prefix_all is_word_byte bs text h.1 e))

number_longest : (bytes text : List ℕ) → IsRun is_digit is_digit bytes → prefix_len is_digit text ≡ 0 → longest_len (bytes ++ text) ≤ length bytes
number_longest [] text h e = absurd h
number_longest (b ∷ bs) text h e = let a = digit_apart b h.0 in rw (a.0, a.1, a.2, h.0) (omega (arith, prefix_all is_digit bs text h.1 e))

single_longest : (b : ℕ) (text : List ℕ) (k : TokenKind) → single_of b ≡ Some k → pair_of b (first_of text) ≡ None → symbol_len b text ≤ 1
single_longest b [] k e none = rw e (omega arith)
single_longest b (c ∷ rest) k e none = rw (none, e) (omega arith)

less_pair : (c : ℕ) → is_apart c ≡ true → pair_of 60 c ≡ None
less_pair c h = rw (apart_61 c h, apart_62 c h) refl

greater_pair : (c : ℕ) → is_apart c ≡ true → pair_of 62 c ≡ None
greater_pair c h = rw (apart_61 c h) refl

minus_pair : (c : ℕ) → eqb c 62 ≡ false → pair_of 45 c ≡ None
minus_pair c h = rw h refl

longest : (kind : TokenKind) (text : List ℕ) → IsGood kind → Ends kind text → longest_len (spelling kind ++ text) ≤ length (spelling kind)
longest (kinds.Name n) text is e = word_longest n text is.0 (prefix_none is_word_byte text (apart_word (first_of text) e))
longest (kinds.Number n) text is e = number_longest (decimal n) text (decimal_is n is).0 (prefix_none is_digit text (word_digit (first_of text) (apart_word (first_of text) e)))
longest kinds.Less text is e = single_longest 60 text kinds.Less refl (less_pair (first_of text) e)
longest kinds.Greater text is e = single_longest 62 text kinds.Greater refl (greater_pair (first_of text) e)
longest kinds.Minus text is e = single_longest 45 text kinds.Minus refl (minus_pair (first_of text) e)
longest kinds.Equal text is e = single_longest 61 text kinds.Equal refl refl
longest kinds.Plus text is e = single_longest 43 text kinds.Plus refl refl
longest kinds.Star text is e = single_longest 42 text kinds.Star refl refl
longest kinds.OpenParen text is e = single_longest 40 text kinds.OpenParen refl refl
longest kinds.CloseParen text is e = single_longest 41 text kinds.CloseParen refl refl
longest kinds.OpenBrace text is e = single_longest 123 text kinds.OpenBrace refl refl
longest kinds.CloseBrace text is e = single_longest 125 text kinds.CloseBrace refl refl
longest kinds.Semicolon text is e = single_longest 59 text kinds.Semicolon refl refl
longest kinds.Comma text is e = single_longest 44 text kinds.Comma refl refl
longest kind text is e = omega (arith, prefix_none is_word_byte text (apart_word (first_of text) e))

word_no_white : (bytes text : List ℕ) → IsWord bytes → prefix_len is_white (bytes ++ text) ≡ 0
word_no_white [] text h = absurd h
word_no_white (b ∷ bs) text h = rw (letter_apart b h.0).0 refl

number_no_white : (bytes text : List ℕ) → IsNumber bytes → prefix_len is_white (bytes ++ text) ≡ 0
number_no_white [] text h = absurd h
number_no_white (b ∷ bs) text h = rw (digit_apart b h.0).0 refl

no_white : (kind : TokenKind) (text : List ℕ) → IsGood kind → prefix_len is_white (spelling kind ++ text) ≡ 0
no_white (kinds.Name n) text is = word_no_white n text is.0
no_white (kinds.Number n) text is = number_no_white (decimal n) text (decimal_is n is).0
no_white kind text is = refl

-- ---- a cut, after white space at the front

pub record Cuts (text : List ℕ) (ks : List TokenKind) : Type 0 where
  pub gap : List ℕ
  pub after : List ℕ
  pub parts : text ≡ gap ++ after
  pub white : Each is_white gap
  pub ends : prefix_len is_white after ≡ 0
  pub pieces : List Piece
  pub cut : IsCut after pieces []
  pub small : AreSmall pieces
  pub are : kinds_in pieces ≡ ks

abbrev with_gap : List ℕ → List Piece → List Piece
with_gap [] pieces = pieces
with_gap (b ∷ bs) pieces = White (b ∷ bs) ∷ pieces

gap_cut : (gap after : List ℕ) (pieces : List Piece) → Each is_white gap → prefix_len is_white after ≡ 0 → IsCut after pieces [] → IsCut (gap ++ after) (with_gap gap pieces) []
gap_cut [] after pieces h e cut = cut
gap_cut (b ∷ bs) after pieces h e cut =
    let len : longest_len (b ∷ (bs ++ after)) ≤ suc (length bs) = rw (h.0) (omega (arith, prefix_all is_white bs after h.1 e)) in
    (after, record { is_piece = h; parts = refl }, is_longest (b ∷ (bs ++ after)) (White (b ∷ bs)) len, cut)

gap_small : (gap : List ℕ) (pieces : List Piece) → AreSmall pieces → AreSmall (with_gap gap pieces)
gap_small [] pieces h = h
gap_small (b ∷ bs) pieces h = (tt, h)

gap_kinds : (gap : List ℕ) (pieces : List Piece) → kinds_in (with_gap gap pieces) ≡ kinds_in pieces
gap_kinds [] pieces = refl
gap_kinds (b ∷ bs) pieces = refl

pub cuts_nothing : Cuts [] []
cuts_nothing = record { gap = []; after = []; parts = refl; white = tt; ends = refl; pieces = []; cut = refl; small = tt; are = refl }

pub cuts_white : {text : List ℕ} {ks : List TokenKind} (b : ℕ) → is_white b ≡ true → Cuts text ks → Cuts (b ∷ text) ks
cuts_white b is c = record { gap = b ∷ c.gap; after = c.after; parts = ap (λ (z : List ℕ). b ∷ z) c.parts; white = (is, c.white); ends = c.ends; pieces = c.pieces; cut = c.cut; small = c.small; are = c.are }

whole_cut : (text : List ℕ) (ks : List TokenKind) (c : Cuts text ks) → IsCut text (with_gap c.gap c.pieces) []
whole_cut text ks c = subst (λ (z : List ℕ). IsCut z (with_gap c.gap c.pieces) []) (sym c.parts) (gap_cut c.gap c.after c.pieces c.white c.ends c.cut)

pub cuts_word : {text : List ℕ} {ks : List TokenKind} (kind : TokenKind) → IsGood kind → Ends kind text → Cuts text ks → Cuts (spelling kind ++ text) (kind ∷ ks)
cuts_word {text} {ks} kind is e c = record {
  gap = [];
  after = spelling kind ++ text;
  parts = refl;
  white = tt;
  ends = no_white kind text is;
  pieces = Lexeme kind (spelling kind) ∷ with_gap c.gap c.pieces;
  cut = (text, record { is_piece = spells kind is; parts = refl }, is_longest (spelling kind ++ text) (Lexeme kind (spelling kind)) (longest kind text is e), whole_cut text ks c);
  small = (small_spelling kind is, gap_small c.gap c.pieces c.small);
  are = ap (λ (z : List TokenKind). kind ∷ z) (gap_kinds c.gap c.pieces ∙ c.are);
}

-- the tokens of a text with this cut
pub record HasKinds (text : List ℕ) (ks : List TokenKind) : Type 0 where
  pub tokens : List Token
  pub are : AreTokensOf text tokens
  pub is_kinds : kinds_of tokens ≡ ks

pub tokens_cut : (text : List ℕ) (ks : List TokenKind) → Cuts text ks → length text ≤ 2 ^ 20 → HasKinds text ks
tokens_cut text ks c short =
    let pieces = with_gap c.gap c.pieces in
    record {
      tokens = tokens_of 0 pieces;
      are = record { short = short; pieces = pieces; cut = whole_cut text ks c; small = gap_small c.gap c.pieces c.small; lexemes = refl };
      is_kinds = kinds_of-tokens 0 pieces ∙ gap_kinds c.gap c.pieces ∙ c.are;
    }
