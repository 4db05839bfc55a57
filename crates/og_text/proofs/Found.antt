-- The piece that is found is the longest.
use Rattle.std.proofs.Common.{◌≡◌, ℕ, ◌≤◌, ◌<◌, ◌^◌, Bool, true, false, cond, ◌&&◌, eqb, List, [], ◌∷◌, ◌++◌, length, get_or, take, drop, Option, Some, None, arith, sym, ap, subst, ◌∙◌, refl, add-one, add_comm, take-append-drop, length-take-le, ◌⊎◌, inl, inr}
use Rattle.std.specs.List.{prefix_len}
use Rattle.std.specs.Str.{bytes_eq}
use Rattle.std.proofs.lemmas.Slice.Eq.{bytes_eq-Decides}
use Rattle.std.proofs.lemmas.List.Sums.{prefix_len-le-length}
use Rattle.std.proofs.lemmas.Bool.{eqb-true, false≢true}
use Rattle.og_text.specs.declared.token.TokenKind.{TokenKind}
use Rattle.og_text.specs.declared.token.TokenKind.TheVariants as kinds
use Rattle.og_text.specs.declared.front.Front.TheVariants as fronts
use Rattle.og_text.specs.Lexemes.{is_white, is_digit, is_letter, is_word_byte, in_line, IsRun, text_of, Spells, value_of, keywords, keyword_of, written_so}
use Rattle.og_text.specs.Cut.{White, Comment, Lexeme, IsSmall}
use Rattle.og_text.specs.Fronts.{IsNext, IsFront}
use Rattle.og_text.proofs.Pieces.{each_take, longest_len, is_longest, letter_apart, digit_apart}

-- the first bytes that pass, the first of which passes more
pub record Run (first other : ℕ → Bool) (text : List ℕ) : Type 0 where
  pub is_run : IsRun first other (take (prefix_len other text) text)
  pub parts : text ≡ take (prefix_len other text) text ++ drop (prefix_len other text) text
  pub len : length (take (prefix_len other text) text) ≡ prefix_len other text
  pub inside : prefix_len other text ≤ length text
  pub some : 0 < length (take (prefix_len other text) text)

run_first : (first other : ℕ → Bool) (b : ℕ) (bs : List ℕ) → first b ≡ true → other b ≡ true → IsRun first other (take (prefix_len other (b ∷ bs)) (b ∷ bs))
run_first first other b bs h k = rw (k, add_comm 1 (prefix_len other bs), add-one) (h, each_take other bs)

run_some : (first other : ℕ → Bool) (bytes : List ℕ) → IsRun first other bytes → 0 < length bytes
run_some first other [] h = absurd h
run_some first other (b ∷ bs) h = omega arith

-- the run at the front of a text whose first byte passes
pub run : (first other : ℕ → Bool) (text : List ℕ) → 0 < length text → first (get_or text 0 0) ≡ true → ((b : ℕ) → first b ≡ true → other b ≡ true) → Run first other text
run first other [] lt h k = absurd (omega arith)
run first other (b ∷ bs) lt h k =
    let inside = prefix_len-le-length other (b ∷ bs) in
    let is = run_first first other b bs h (k b h) in
    record {
      is_run = is;
      parts = sym (take-append-drop (prefix_len other (b ∷ bs)) (b ∷ bs));
      len = length-take-le (prefix_len other (b ∷ bs)) (b ∷ bs) inside;
      inside = inside;
      some = run_some first other (take (prefix_len other (b ∷ bs)) (b ∷ bs)) is;
    }

longest_white : (text : List ℕ) → is_white (get_or text 0 0) ≡ true → longest_len text ≡ prefix_len is_white text
longest_white [] h = refl
longest_white (b ∷ bs) h = rw h refl

-- white space at the front
pub white_front : (text : List ℕ) → 0 < length text → is_white (get_or text 0 0) ≡ true → IsFront text (fronts.Gap (prefix_len is_white text))
white_front text lt h =
    let r = run is_white is_white text lt h (λ b k. k) in
    let piece = White (take (prefix_len is_white text) text) in
    (piece, record { begins = record { is_piece = r.is_run; parts = r.parts }; longest = is_longest text piece (omega (arith, r.len, longest_white text h)); some = r.some }, tt, sym r.len, r.inside)

longest_comment : (text : List ℕ) → eqb (get_or text 0 0) 35 ≡ true → longest_len text ≡ prefix_len in_line text
longest_comment [] h = refl
longest_comment (b ∷ bs) h = rw (eqb-true b 35 h) refl

-- a comment at the front
pub comment_front : (text : List ℕ) → 0 < length text → eqb (get_or text 0 0) 35 ≡ true → IsFront text (fronts.Gap (prefix_len in_line text))
comment_front text lt h =
    let r = run (λ b. eqb b 35) in_line text lt h (λ b k. rw (eqb-true b 35 k) refl) in
    let piece = Comment (take (prefix_len in_line text) text) in
    (piece, record { begins = record { is_piece = r.is_run; parts = r.parts }; longest = is_longest text piece (omega (arith, r.len, longest_comment text h)); some = r.some }, tt, sym r.len, r.inside)

longest_digits : (text : List ℕ) → is_digit (get_or text 0 0) ≡ true → longest_len text ≡ prefix_len is_digit text
longest_digits [] h = refl
longest_digits (b ∷ bs) h = let a = digit_apart b h in rw (a.0, a.1, a.2, h) refl

-- the digits at the front
pub number_next : (text : List ℕ) → 0 < length text → is_digit (get_or text 0 0) ≡ true
    → IsNext text (Lexeme (kinds.Number (value_of (take (prefix_len is_digit text) text))) (take (prefix_len is_digit text) text)) (drop (prefix_len is_digit text) text)
number_next text lt h =
    let r = run is_digit is_digit text lt h (λ b k. k) in
    let digits = take (prefix_len is_digit text) text in
    record { begins = record { is_piece = (r.is_run, refl); parts = r.parts }; longest = is_longest text (Lexeme (kinds.Number (value_of digits)) digits) (omega (arith, r.len, longest_digits text h)); some = r.some }

-- a number within the limit at the front
pub number_front : (text : List ℕ) (n len : ℕ) → 0 < length text → is_digit (get_or text 0 0) ≡ true → len ≡ prefix_len is_digit text → n ≡ value_of (take len text) → n ≤ 2 ^ 63 → IsFront text (fronts.Lexeme (kinds.Number n) len)
number_front text n len lt h len_is n_is small =
    let r = run is_digit is_digit text lt h (λ b k. k) in
    let digits = take (prefix_len is_digit text) text in
    let value : n ≡ value_of digits = n_is ∙ ap (λ (k : ℕ). value_of (take k text)) len_is in
    rw (value, len_is) (digits, number_next text lt h, rw (← value) small, sym r.len, r.inside)

-- a number above the limit at the front
pub number_large : (text : List ℕ) (len : ℕ) → 0 < length text → is_digit (get_or text 0 0) ≡ true → len ≡ prefix_len is_digit text → 2 ^ 63 < value_of (take len text) → IsFront text fronts.NumberTooLarge
number_large text len lt h len_is large =
    let digits = take (prefix_len is_digit text) text in
    (value_of digits, digits, drop (prefix_len is_digit text) text, number_next text lt h, subst (λ (k : ℕ). 2 ^ 63 < value_of (take k text)) len_is large)

-- ---- words

longest_word : (text : List ℕ) → is_letter (get_or text 0 0) ≡ true → longest_len text ≡ prefix_len is_word_byte text
longest_word [] h = refl
longest_word (b ∷ bs) h = let a = letter_apart b h in rw (a.0, a.1, h) refl

letter_in_word : (b : ℕ) → is_letter b ≡ true → is_word_byte b ≡ true
letter_in_word b h = rw h refl

-- a word at the front is its longest piece
pub word_next : (text : List ℕ) (kind : TokenKind) → 0 < length text → is_letter (get_or text 0 0) ≡ true → Spells kind (take (prefix_len is_word_byte text) text)
    → IsNext text (Lexeme kind (take (prefix_len is_word_byte text) text)) (drop (prefix_len is_word_byte text) text)
word_next text kind lt h spells =
    let r = run is_letter is_word_byte text lt h letter_in_word in
    record { begins = record { is_piece = spells; parts = r.parts }; longest = is_longest text (Lexeme kind (take (prefix_len is_word_byte text) text)) (omega (arith, r.len, longest_word text h)); some = r.some }

-- a test that chose the kind, or the tests after it did
pub chosen_kind : (b : Bool) (j k : TokenKind) (r : Option TokenKind) → cond b (Some j) r ≡ Some k → ((b ≡ true) × (j ≡ k)) ⊎ (r ≡ Some k)
chosen_kind true j k r e = inl (refl, cc)
chosen_kind false j k r e = inr e

-- written so, in few bytes
abbrev pub IsWritten : List ℕ → TokenKind → Type 0
IsWritten w k = Spells k w × (length w ≤ 64) × IsSmall (Lexeme k w)

same_text : (w text : List ℕ) → bytes_eq w text ≡ true → w ≡ text
same_text w text e = (bytes_eq-Decides w text).0 e

-- a keyword or a symbol
abbrev is_fixed : TokenKind → Bool
is_fixed (kinds.Name n) = false
is_fixed (kinds.Number n) = false
is_fixed kind = true

abbrev are_fixed : List TokenKind → Bool
are_fixed [] = true
are_fixed (kind ∷ others) = is_fixed kind && are_fixed others

fixed_written : (kind : TokenKind) → is_fixed kind ≡ true → IsWritten (text_of kind) kind
fixed_written (kinds.Name n) e = absurd (false≢true e)
fixed_written (kinds.Number n) e = absurd (false≢true e)
fixed_written kind e = (refl, omega arith, omega arith)

both_true : (a b : Bool) → (a && b) ≡ true → (a ≡ true) × (b ≡ true)
both_true true b e = (refl, e)
both_true false b e = absurd (false≢true e)

-- the kind that is found is written so
pub found_written : (all : List TokenKind) (bytes : List ℕ) (kind : TokenKind) → are_fixed all ≡ true → written_so all bytes ≡ Some kind → IsWritten bytes kind
found_written [] bytes kind fixed e = absurd cc
found_written (other ∷ others) bytes kind fixed e =
    let both = both_true (is_fixed other) (are_fixed others) fixed in
    elim (chosen_kind (bytes_eq bytes (text_of other)) other kind (written_so others bytes) e) [
      | inl h ↦ subst (IsWritten bytes) h.1 (subst (λ (z : List ℕ). IsWritten z other) (sym (same_text bytes (text_of other) h.0)) (fixed_written other both.0))
      | inr h ↦ found_written others bytes kind both.1 h
    ]

-- a keyword is written so
pub keyword_spells : (w : List ℕ) (k : TokenKind) → keyword_of w ≡ Some k → IsWritten w k
keyword_spells w k e = found_written keywords w k refl e

-- a long word is no keyword
pub long_word : (w : List ℕ) → 64 < length w → (o : Option TokenKind) → keyword_of w ≡ o → keyword_of w ≡ None
long_word w lt None e = e
long_word w lt (Some k) e = absurd (omega (arith, (keyword_spells w k e).1))

-- a word within the limit at the front
pub word_front : (text : List ℕ) (kind : TokenKind) (len : ℕ) → 0 < length text → is_letter (get_or text 0 0) ≡ true → len ≡ prefix_len is_word_byte text → Spells kind (take len text) → IsSmall (Lexeme kind (take len text)) → IsFront text (fronts.Lexeme kind len)
word_front text kind len lt h len_is spells small =
    let r = run is_letter is_word_byte text lt h letter_in_word in
    let n = prefix_len is_word_byte text in
    rw len_is (take n text, word_next text kind lt h (subst (λ (k : ℕ). Spells kind (take k text)) len_is spells), subst (λ (k : ℕ). IsSmall (Lexeme kind (take k text))) len_is small, sym r.len, r.inside)

-- a word above the limit at the front
pub word_large : (text : List ℕ) (len : ℕ) → 0 < length text → is_letter (get_or text 0 0) ≡ true → len ≡ prefix_len is_word_byte text → 64 < len → IsFront text fronts.NameTooLong
word_large text len lt h len_is large =
    let r = run is_letter is_word_byte text lt h letter_in_word in
    let n = prefix_len is_word_byte text in
    let w = take n text in
    let long : 64 < length w = omega (arith, r.len, len_is) in
    (w, drop n text, word_next text (kinds.Name w) lt h (r.is_run, long_word w long (keyword_of w) refl, refl), long)

-- a word that is no keyword
pub name_front : (text name : List ℕ) (len : ℕ) → 0 < length text → is_letter (get_or text 0 0) ≡ true → len ≡ prefix_len is_word_byte text → keyword_of (take len text) ≡ None → name ≡ take len text → len ≤ 64 → IsFront text (fronts.Lexeme (kinds.Name name) len)
name_front text name len lt h len_is no_keyword name_is small =
    let r = run is_letter is_word_byte text lt h letter_in_word in
    let w = take (prefix_len is_word_byte text) text in
    let same : take len text ≡ w = ap (λ (k : ℕ). take k text) len_is in
    let short : length (take len text) ≤ 64 = omega (arith, ap length same, r.len, len_is) in
    word_front text (kinds.Name name) len lt h len_is (subst (λ (z : List ℕ). IsRun is_letter is_word_byte z) (sym same) r.is_run, no_keyword, name_is) short
