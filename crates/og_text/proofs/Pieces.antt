-- How long a piece can be at a place.
use Rattle.std.proofs.Common.{◌≡◌, ℕ, ◌+◌, ◌≤◌, Bool, true, false, cond, eqb, List, [], ◌∷◌, ◌++◌, length, take, Option, Some, None, arith, refl, add-one, add_comm}
use Rattle.std.proofs.lemmas.Bool.{eqb-true}
use Rattle.std.proofs.lemmas.Bool.Decides.{nat_tests}
use Rattle.std.specs.List.{prefix_len}
use Rattle.og_text.specs.declared.token.TokenKind.{TokenKind}
use Rattle.og_text.specs.declared.token.TokenKind.TheVariants as kinds
use Rattle.og_text.specs.Lexemes.{is_white, is_digit, is_letter, is_word_byte, in_line, Each, IsRun, text_of, Spells}
use Rattle.og_text.specs.Fronts.{single_of, pair_of}
use Rattle.og_text.specs.Cut.{Piece, White, Comment, Lexeme, bytes_of, BeginsWith, IsLongest}

each_prefix : (p : ℕ → Bool) (xs ys : List ℕ) → Each p xs → length xs ≤ prefix_len p (xs ++ ys)
each_prefix p [] ys h = omega arith
each_prefix p (x ∷ xs) ys h = rw h.0 (omega (arith, each_prefix p xs ys h.1))

taken_one : (p : ℕ → Bool) (x : ℕ) (xs : List ℕ) → Each p (take (prefix_len p xs) xs) → (b : Bool) → p x ≡ b → Each p (take (cond b (1 + prefix_len p xs) 0) (x ∷ xs))
taken_one p x xs h true e = rw (add_comm 1 (prefix_len p xs), add-one) (e, h)
taken_one p x xs h false e = tt

-- the first bytes that pass all pass
pub each_take : (p : ℕ → Bool) (xs : List ℕ) → Each p (take (prefix_len p xs) xs)
each_take p [] = tt
each_take p (x ∷ xs) = taken_one p x xs (each_take p xs) (p x) refl

-- the length of the symbol at the front
abbrev pub some_len : Option TokenKind → ℕ → ℕ → ℕ
some_len None n m = m
some_len (Some k) n m = n

-- the length of the symbol at the front, given its first byte
abbrev pub symbol_len : ℕ → List ℕ → ℕ
symbol_len b [] = some_len (single_of b) 1 0
symbol_len b (c ∷ rest) = some_len (pair_of b c) 2 (some_len (single_of b) 1 0)

-- the length of the longest piece at the front
abbrev pub longest_len : List ℕ → ℕ
longest_len [] = 0
longest_len (b ∷ rest) =
    cond (is_white b) (prefix_len is_white (b ∷ rest))
    (cond (eqb b 35) (prefix_len in_line (b ∷ rest))
    (cond (is_letter b) (prefix_len is_word_byte (b ∷ rest))
    (cond (is_digit b) (prefix_len is_digit (b ∷ rest))
    (symbol_len b rest))))

white_bound : (bytes rest : List ℕ) → IsRun is_white is_white bytes → length bytes ≤ longest_len (bytes ++ rest)
white_bound [] rest h = absurd h
white_bound (b ∷ bs) rest h = rw (h.0) (omega (arith, each_prefix is_white bs rest h.1))

-- a letter begins no white space and no comment
pub letter_apart : (b : ℕ) → is_letter b ≡ true → (is_white b ≡ false) × (eqb b 35 ≡ false)
letter_apart b h = (grind (arith, nat_tests), grind (arith, nat_tests))

-- a digit begins no white space, comment or word
pub digit_apart : (b : ℕ) → is_digit b ≡ true → (is_white b ≡ false) × (eqb b 35 ≡ false) × (is_letter b ≡ false)
digit_apart b h = (grind (arith, nat_tests), grind (arith, nat_tests), grind (arith, nat_tests))

word_bound : (bytes rest : List ℕ) → IsRun is_letter is_word_byte bytes → length bytes ≤ longest_len (bytes ++ rest)
word_bound [] rest h = absurd h
word_bound (b ∷ bs) rest h = let a = letter_apart b h.0 in rw (a.0, a.1, h.0) (omega (arith, each_prefix is_word_byte bs rest h.1))

number_bound : (bytes rest : List ℕ) → IsRun is_digit is_digit bytes → length bytes ≤ longest_len (bytes ++ rest)
number_bound [] rest h = absurd h
number_bound (b ∷ bs) rest h = let a = digit_apart b h.0 in rw (a.0, a.1, a.2, h.0) (omega (arith, each_prefix is_digit bs rest h.1))

comment_bound : (bytes rest : List ℕ) → IsRun (λ b. eqb b 35) in_line bytes → length bytes ≤ longest_len (bytes ++ rest)
comment_bound [] rest h = absurd h
comment_bound (b ∷ bs) rest h = rw (eqb-true b 35 h.0) (omega (arith, each_prefix in_line bs rest h.1))

single_bound : (b : ℕ) (rest : List ℕ) (k : TokenKind) → single_of b ≡ Some k → 1 ≤ symbol_len b rest
single_bound b [] k e = rw e (omega arith)
single_bound b (c ∷ rest) k e = go (pair_of b c) where
  go : (o : Option TokenKind) → 1 ≤ some_len o 2 (some_len (single_of b) 1 0)
  go None = rw e (omega arith)
  go (Some j) = omega arith

fixed_bound : (kind : TokenKind) (rest : List ℕ) → Spells kind (text_of kind) → length (text_of kind) ≤ longest_len (text_of kind ++ rest)
fixed_bound (kinds.Name n) rest h = word_bound n rest h.0
fixed_bound (kinds.Number n) rest h = omega arith
fixed_bound kinds.Var rest h = omega arith
fixed_bound kinds.Assign rest h = omega arith
fixed_bound kinds.Less rest h = single_bound 60 rest kinds.Less refl
fixed_bound kinds.Greater rest h = single_bound 62 rest kinds.Greater refl
fixed_bound kinds.Equal rest h = single_bound 61 rest kinds.Equal refl
fixed_bound kinds.Plus rest h = single_bound 43 rest kinds.Plus refl
fixed_bound kinds.Minus rest h = single_bound 45 rest kinds.Minus refl
fixed_bound kinds.Star rest h = single_bound 42 rest kinds.Star refl
fixed_bound kinds.OpenParen rest h = single_bound 40 rest kinds.OpenParen refl
fixed_bound kinds.CloseParen rest h = single_bound 41 rest kinds.CloseParen refl
fixed_bound kinds.OpenBrace rest h = single_bound 123 rest kinds.OpenBrace refl
fixed_bound kinds.CloseBrace rest h = single_bound 125 rest kinds.CloseBrace refl
fixed_bound kinds.Semicolon rest h = single_bound 59 rest kinds.Semicolon refl
fixed_bound kinds.Comma rest h = single_bound 44 rest kinds.Comma refl
fixed_bound kind rest h = omega arith

spelled_bound : (kind : TokenKind) (bytes rest : List ℕ) → Spells kind bytes → length bytes ≤ longest_len (bytes ++ rest)
spelled_bound (kinds.Name n) bytes rest h = word_bound bytes rest h.0
spelled_bound (kinds.Number n) bytes rest h = number_bound bytes rest h.0
spelled_bound kinds.Var bytes rest h = rw h (fixed_bound kinds.Var rest refl)
spelled_bound kind bytes rest h = rw h (fixed_bound kind rest refl)

-- no piece at the front is longer
pub bounded : (text : List ℕ) (piece : Piece) (rest : List ℕ) → BeginsWith text piece rest → length (bytes_of piece) ≤ longest_len text
bounded text (White bytes) rest h = rw h.parts (white_bound bytes rest h.is_piece)
bounded text (Comment bytes) rest h = rw h.parts (comment_bound bytes rest h.is_piece)
bounded text (Lexeme kind bytes) rest h = rw h.parts (spelled_bound kind bytes rest h.is_piece)

-- a piece of that length is the longest
pub is_longest : (text : List ℕ) (piece : Piece) → longest_len text ≤ length (bytes_of piece) → IsLongest text piece
is_longest text piece h other rest begins = omega (arith, bounded text other rest begins)
