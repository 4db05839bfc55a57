-- A text has one cut, and one fault at most.
use Rattle.std.proofs.Common.{◌≡◌, ℕ, ◌+◌, ◌≤◌, ◌<◌, cond, eqb, List, [], ◌∷◌, ◌++◌, length, Option, Some, None, arith, sym, ap, subst, ◌∙◌, refl, ◌⊎◌, inl, inr, length-append, append-nil, take, drop}
use Rattle.std.proofs.lemmas.Bool.{eqb-true}
use Rattle.std.proofs.Math.Seq.{take-append_seam, drop-append_seam}
use Rattle.og_text.specs.declared.fault.LexFault.{LexFault}
use Rattle.og_text.specs.declared.fault.LexFault.TheVariants as faults
use Rattle.og_text.specs.declared.token.Token.{Token}
use Rattle.og_text.specs.declared.token.TokenKind.{TokenKind}
use Rattle.og_text.specs.declared.token.TokenKind.TheVariants as kinds
use Rattle.og_text.specs.Lexemes.{is_white, is_digit, is_letter, is_word_byte, in_line, IsRun, text_of, Spells, value_of, keyword_of}
use Rattle.og_text.specs.Cut.{Piece, White, Comment, Lexeme, bytes_of, IsPiece, BeginsWith, IsLongest, IsCut, tokens_of, IsSmall, AreSmall, AreTokensOf}
use Rattle.og_text.specs.Lexed.{LiesWithin}
use Rattle.og_text.specs.Refused.{HasNoPiece, length_of, ComesTo, StandsAt, IsFaultOf}
use Rattle.og_text.specs.Faults.{place_of_fault}
use Rattle.std.specs.Prelude.{All, IfSome}
use Rattle.std.proofs.lemmas.List.Elements.{All-cons}
use Rattle.og_text.specs.Fronts.{single_of, pair_of}
use Rattle.og_text.proofs.Pieces.{letter_apart, digit_apart}

-- ---- the bytes of a piece determine it

abbrev word_piece : Option TokenKind → List ℕ → Option Piece
word_piece None bytes = Some (Lexeme (kinds.Name bytes) bytes)
word_piece (Some kind) bytes = Some (Lexeme kind bytes)

abbrev symbol_piece : Option TokenKind → List ℕ → Option Piece
symbol_piece None bytes = None
symbol_piece (Some kind) bytes = Some (Lexeme kind bytes)

abbrev symbol_of : ℕ → List ℕ → Option TokenKind
symbol_of b [] = single_of b
symbol_of b (c ∷ rest) = pair_of b c

-- the piece that has these bytes, by the first of them
abbrev piece_of : List ℕ → Option Piece
piece_of [] = None
piece_of (b ∷ bs) =
    cond (is_white b) (Some (White (b ∷ bs)))
    (cond (eqb b 35) (Some (Comment (b ∷ bs)))
    (cond (is_letter b) (word_piece (keyword_of (b ∷ bs)) (b ∷ bs))
    (cond (is_digit b) (Some (Lexeme (kinds.Number (value_of (b ∷ bs))) (b ∷ bs)))
    (symbol_piece (symbol_of b bs) (b ∷ bs)))))

piece_of-white : (bytes : List ℕ) → IsRun is_white is_white bytes → piece_of bytes ≡ Some (White bytes)
piece_of-white [] h = absurd h
piece_of-white (b ∷ bs) h = rw (h.0) refl

piece_of-comment : (bytes : List ℕ) → IsRun (λ b. eqb b 35) in_line bytes → piece_of bytes ≡ Some (Comment bytes)
piece_of-comment [] h = absurd h
piece_of-comment (b ∷ bs) h = rw (eqb-true b 35 h.0) refl

piece_of-name : (bytes : List ℕ) → IsRun is_letter is_word_byte bytes → keyword_of bytes ≡ None → piece_of bytes ≡ Some (Lexeme (kinds.Name bytes) bytes)
piece_of-name [] h e = absurd h
piece_of-name (b ∷ bs) h e = let a = letter_apart b h.0 in rw (a.0, a.1, h.0, e) refl

piece_of-number : (bytes : List ℕ) → IsRun is_digit is_digit bytes → piece_of bytes ≡ Some (Lexeme (kinds.Number (value_of bytes)) bytes)
piece_of-number [] h = absurd h
piece_of-number (b ∷ bs) h = let a = digit_apart b h.0 in rw (a.0, a.1, a.2, h.0) refl

piece_of-text : (kind : TokenKind) → Spells kind (text_of kind) → piece_of (text_of kind) ≡ Some (Lexeme kind (text_of kind))
piece_of-text (kinds.Name n) h = piece_of-name n h.0 h.1
piece_of-text (kinds.Number n) h = absurd h.0
piece_of-text kind h = refl

piece_of-lexeme : (kind : TokenKind) (bytes : List ℕ) → Spells kind bytes → piece_of bytes ≡ Some (Lexeme kind bytes)
piece_of-lexeme (kinds.Name n) bytes h = piece_of-name bytes h.0 h.1 ∙ ap (λ (m : List ℕ). Some (Lexeme (kinds.Name m) bytes)) (sym h.2)
piece_of-lexeme (kinds.Number n) bytes h = piece_of-number bytes h.0 ∙ ap (λ (m : ℕ). Some (Lexeme (kinds.Number m) bytes)) (sym h.1)
piece_of-lexeme kind bytes h = subst (λ (z : List ℕ). piece_of z ≡ Some (Lexeme kind z)) (sym h) (piece_of-text kind refl)

piece_of-bytes : (piece : Piece) → IsPiece piece → piece_of (bytes_of piece) ≡ Some piece
piece_of-bytes (White bytes) h = piece_of-white bytes h
piece_of-bytes (Comment bytes) h = piece_of-comment bytes h
piece_of-bytes (Lexeme kind bytes) h = piece_of-lexeme kind bytes h

some_is : (p q : Piece) → Some p ≡ Some q → p ≡ q
some_is p q e = cc

same_piece : (p q : Piece) → IsPiece p → IsPiece q → bytes_of p ≡ bytes_of q → p ≡ q
same_piece p q is_p is_q e = some_is p q (sym (piece_of-bytes p is_p) ∙ ap piece_of e ∙ piece_of-bytes q is_q)

no_bytes : (bytes : List ℕ) → length bytes ≡ 0 → bytes ≡ []
no_bytes [] e = refl
no_bytes (b ∷ bs) e = absurd (omega arith)

-- a piece has some bytes
piece_some : (p : Piece) → IsPiece p → length (bytes_of p) ≡ 0 → ⊥
piece_some p is e =
    let none : piece_of (bytes_of p) ≡ None = ap piece_of (no_bytes (bytes_of p) e) in
    let some : piece_of (bytes_of p) ≡ Some p = piece_of-bytes p is in
    cc

-- ---- the longest piece at a place

fronts_same : (a b x y : List ℕ) → length a ≡ length b → a ++ x ≡ b ++ y → (a ≡ b) × (x ≡ y)
fronts_same a b x y len e = (
  sym (take-append_seam a x) ∙ ap (λ (z : List ℕ). take (length a) z) e ∙ ap (λ (k : ℕ). take k (b ++ y)) len ∙ take-append_seam b y,
  sym (drop-append_seam a x) ∙ ap (λ (z : List ℕ). drop (length a) z) e ∙ ap (λ (k : ℕ). drop k (b ++ y)) len ∙ drop-append_seam b y,
)

-- two longest pieces at one place are the same
pub one_longest : (text : List ℕ) (p q : Piece) (x y : List ℕ) → BeginsWith text p x → IsLongest text p → BeginsWith text q y → IsLongest text q → (p ≡ q) × (x ≡ y)
one_longest text p q x y begins_p longest_p begins_q longest_q =
    let len : length (bytes_of p) ≡ length (bytes_of q) = omega (arith, longest_p q y begins_q, longest_q p x begins_p) in
    let same = fronts_same (bytes_of p) (bytes_of q) x y len (sym begins_p.parts ∙ begins_q.parts) in
    (same_piece p q begins_p.is_piece begins_q.is_piece same.0, same.1)

-- ---- one cut

-- the second cut goes on where the first ends
pub record GoesOn (a b : List Piece) (r s : List ℕ) : Type 0 where
  pub more : List Piece
  pub parts : b ≡ a ++ more
  pub cut : IsCut r more s

goes_on : (text : List ℕ) (a b : List Piece) (r s : List ℕ) → IsCut text a r → IsCut text b s → GoesOn a b r s ⊎ GoesOn b a s r
goes_on text [] b r s cut_a cut_b = inl (record { more = b; parts = refl; cut = subst (λ (z : List ℕ). IsCut z b s) cut_a cut_b })
goes_on text (p ∷ ps) [] r s cut_a cut_b = inr (record { more = p ∷ ps; parts = refl; cut = subst (λ (z : List ℕ). IsCut z (p ∷ ps) r) cut_b cut_a })
goes_on text (p ∷ ps) (q ∷ qs) r s cut_a cut_b =
    let same = one_longest text p q cut_a.0 cut_b.0 cut_a.1 cut_a.2 cut_b.1 cut_b.2 in
    let there : IsCut cut_a.0 qs s = subst (λ (z : List ℕ). IsCut z qs s) (sym same.1) cut_b.3 in
    elim (goes_on cut_a.0 ps qs r s cut_a.3 there) [
      | inl g ↦ inl (record { more = g.more; parts = ap (λ (z : Piece). z ∷ qs) (sym same.0) ∙ ap (λ (zs : List Piece). p ∷ zs) g.parts; cut = g.cut })
      | inr g ↦ inr (record { more = g.more; parts = ap (λ (z : Piece). z ∷ ps) same.0 ∙ ap (λ (zs : List Piece). q ∷ zs) g.parts; cut = g.cut })
    ]

-- a cut of nothing has no pieces
cut_of_nothing : (pieces : List Piece) (rest : List ℕ) → IsCut [] pieces rest → pieces ≡ []
cut_of_nothing [] rest cut = refl
cut_of_nothing (p ∷ ps) rest cut =
    let len : 0 ≡ length (bytes_of p) + length cut.0 = ap length cut.1.parts ∙ length-append (bytes_of p) cut.0 in
    absurd (piece_some p cut.1.is_piece (omega arith))

same_by_nothing : (a b : List Piece) (s : List ℕ) → GoesOn a b [] s → a ≡ b
same_by_nothing a b s g = sym (append-nil a) ∙ ap (λ (zs : List Piece). a ++ zs) (sym (cut_of_nothing g.more s g.cut)) ∙ sym g.parts

-- two cuts of a text to its end have the same pieces
pub one_cut_lem : (text : List ℕ) (a b : List Piece) → IsCut text a [] → IsCut text b [] → a ≡ b
one_cut_lem text a b cut_a cut_b = elim (goes_on text a b [] [] cut_a cut_b) [
  | inl g ↦ same_by_nothing a b [] g
  | inr g ↦ sym (same_by_nothing b a [] g)
]

-- a text has one list of tokens at most
pub one_tokens : (text : List ℕ) (a b : List Token) → AreTokensOf text a → AreTokensOf text b → a ≡ b
one_tokens text a b is_a is_b = is_a.lexemes ∙ ap (λ (ps : List Piece). tokens_of 0 ps) (one_cut_lem text is_a.pieces is_b.pieces is_a.cut is_b.cut) ∙ sym is_b.lexemes

-- ---- one fault

-- no small piece goes on there
abbrev pub IsStuck : List ℕ → Type 0
IsStuck rest = (piece : Piece) (after : List ℕ) → BeginsWith rest piece after → IsLongest rest piece → IsSmall piece → ⊥

-- the cut stops there
pub record StopsAt (text : List ℕ) (at : ℕ) (rest : List ℕ) : Type 0 where
  pub comes : ComesTo text at rest
  pub some : 0 < length rest
  pub stuck : IsStuck rest

small_more : (a more : List Piece) → AreSmall (a ++ more) → AreSmall more
small_more [] more h = h
small_more (p ∷ ps) more h = small_more ps more h.1

-- where no small piece goes on, a cut of small pieces ends
ends_there : (a b : List Piece) (r s : List ℕ) → IsStuck r → AreSmall b → GoesOn a b r s → (a ≡ b) × (r ≡ s)
ends_there a b r s stuck small g = go g.more g.parts g.cut (small_more a g.more (subst AreSmall g.parts small)) where
  go : (more : List Piece) → b ≡ a ++ more → IsCut r more s → AreSmall more → (a ≡ b) × (r ≡ s)
  go [] parts cut less = (sym (append-nil a) ∙ sym parts, cut)
  go (p ∷ ps) parts cut less = absurd (stuck p cut.0 cut.1 cut.2 less.0)

same_end : (text : List ℕ) (a b : List Piece) (r s : List ℕ) → IsCut text a r → AreSmall a → IsStuck r → IsCut text b s → AreSmall b → IsStuck s → (a ≡ b) × (r ≡ s)
same_end text a b r s cut_a small_a stuck_r cut_b small_b stuck_s = elim (goes_on text a b r s cut_a cut_b) [
  | inl g ↦ ends_there a b r s stuck_r small_b g
  | inr g ↦ let same = ends_there b a s r stuck_s small_a g in (sym same.0, sym same.1)
]

-- a cut stops at one place
same_place : (text : List ℕ) (at to : ℕ) (r s : List ℕ) → StopsAt text at r → StopsAt text to s → (at ≡ to) × (r ≡ s)
same_place text at to r s f g =
    let same = same_end text f.comes.pieces g.comes.pieces r s f.comes.cut f.comes.small f.stuck g.comes.cut g.comes.small g.stuck in
    (f.comes.place ∙ ap length_of same.0 ∙ sym g.comes.place, same.1)

-- a text that begins with a piece is not empty
pub nonempty : (rest : List ℕ) (piece : Piece) (after : List ℕ) → BeginsWith rest piece after → 0 < length rest
nonempty rest piece after begins =
    let len : length rest ≡ length (bytes_of piece) + length after = ap length begins.parts ∙ length-append (bytes_of piece) after in
    let some : length (bytes_of piece) ≡ 0 → ⊥ = piece_some piece begins.is_piece in
    omega (arith, len, some)

-- a cut stops before a piece that is not small
stops_before : (text : List ℕ) (at : ℕ) (piece : Piece) (s : StandsAt text at piece) → (IsSmall piece → ⊥) → StopsAt text at s.rest
stops_before text at piece s large = record {
  comes = s.comes;
  some = nonempty s.rest piece s.after s.begins;
  stuck = λ other far begins longest small. large (subst IsSmall (one_longest s.rest other piece far s.after begins longest s.begins s.longest).0 small);
}

bad_byte : (text : List ℕ) (at : ℕ) (f : IsFaultOf text (faults.BadByte at)) → StopsAt text at f.0
bad_byte text at f = record { comes = f.1; some = f.2; stuck = λ piece after begins longest small. f.3 piece after begins }

large_number : (text : List ℕ) (at : ℕ) (f : IsFaultOf text (faults.NumberTooLarge at)) → StopsAt text at f.2.rest
large_number text at f = stops_before text at (Lexeme (kinds.Number f.0) f.1) f.2 (λ small. omega (arith, small, f.3))

long_name : (text : List ℕ) (at : ℕ) (f : IsFaultOf text (faults.NameTooLong at)) → StopsAt text at f.1.rest
long_name text at f = stops_before text at (Lexeme (kinds.Name f.0) f.0) f.1 (λ small. omega (arith, small, f.2))

-- where no piece begins, none stands
none_stands : (text : List ℕ) (at : ℕ) (piece : Piece) (rest : List ℕ) (s : StandsAt text at piece) → HasNoPiece rest → rest ≡ s.rest → ⊥
none_stands text at piece rest s none e = none piece s.after (subst (λ (z : List ℕ). BeginsWith z piece s.after) (sym e) s.begins)

-- a number and a name do not stand at one place
number_or_name : (text : List ℕ) (at to n : ℕ) (digits word : List ℕ) (s : StandsAt text at (Lexeme (kinds.Number n) digits)) (t : StandsAt text to (Lexeme (kinds.Name word) word)) → s.rest ≡ t.rest → ⊥
number_or_name text at to n digits word s t e =
    let piece = Lexeme (kinds.Name word) word in
    let begins = subst (λ (z : List ℕ). BeginsWith z piece t.after) (sym e) t.begins in
    let longest = subst (λ (z : List ℕ). IsLongest z piece) (sym e) t.longest in
    let same : Lexeme (kinds.Number n) digits ≡ piece = (one_longest s.rest (Lexeme (kinds.Number n) digits) piece s.after t.after s.begins s.longest begins longest).0 in
    cc

-- a text has one fault at most
pub one_fault : (text : List ℕ) (a b : LexFault) → IsFaultOf text a → IsFaultOf text b → a ≡ b
one_fault text (faults.BadByte at) (faults.BadByte to) f g = ap (λ (k : ℕ). faults.BadByte k) (same_place text at to f.0 g.0 (bad_byte text at f) (bad_byte text to g)).0
one_fault text (faults.BadByte at) (faults.NumberTooLarge to) f g =
    absurd (none_stands text to (Lexeme (kinds.Number g.0) g.1) f.0 g.2 f.3 (same_place text at to f.0 g.2.rest (bad_byte text at f) (large_number text to g)).1)
one_fault text (faults.BadByte at) (faults.NameTooLong to) f g =
    absurd (none_stands text to (Lexeme (kinds.Name g.0) g.0) f.0 g.1 f.3 (same_place text at to f.0 g.1.rest (bad_byte text at f) (long_name text to g)).1)
one_fault text (faults.NumberTooLarge at) (faults.BadByte to) f g =
    absurd (none_stands text at (Lexeme (kinds.Number f.0) f.1) g.0 f.2 g.3 (same_place text to at g.0 f.2.rest (bad_byte text to g) (large_number text at f)).1)
one_fault text (faults.NumberTooLarge at) (faults.NumberTooLarge to) f g =
    ap (λ (k : ℕ). faults.NumberTooLarge k) (same_place text at to f.2.rest g.2.rest (large_number text at f) (large_number text to g)).0
one_fault text (faults.NumberTooLarge at) (faults.NameTooLong to) f g =
    absurd (number_or_name text at to f.0 f.1 g.0 f.2 g.1 (same_place text at to f.2.rest g.1.rest (large_number text at f) (long_name text to g)).1)
one_fault text (faults.NameTooLong at) (faults.BadByte to) f g =
    absurd (none_stands text at (Lexeme (kinds.Name f.0) f.0) g.0 f.1 g.3 (same_place text to at g.0 f.1.rest (bad_byte text to g) (long_name text at f)).1)
one_fault text (faults.NameTooLong at) (faults.NumberTooLarge to) f g =
    absurd (number_or_name text to at g.0 g.1 f.0 g.2 f.1 (same_place text to at g.2.rest f.1.rest (large_number text to g) (long_name text at f)).1)
one_fault text (faults.NameTooLong at) (faults.NameTooLong to) f g =
    ap (λ (k : ℕ). faults.NameTooLong k) (same_place text at to f.1.rest g.1.rest (long_name text at f) (long_name text to g)).0
one_fault text faults.SourceTooLong faults.SourceTooLong f g = refl
one_fault text faults.SourceTooLong (faults.BadByte to) f g = absurd (omega (arith, (bad_byte text to g).comes.short))
one_fault text faults.SourceTooLong (faults.NumberTooLarge to) f g = absurd (omega (arith, (large_number text to g).comes.short))
one_fault text faults.SourceTooLong (faults.NameTooLong to) f g = absurd (omega (arith, (long_name text to g).comes.short))
one_fault text (faults.BadByte at) faults.SourceTooLong f g = absurd (omega (arith, (bad_byte text at f).comes.short))
one_fault text (faults.NumberTooLarge at) faults.SourceTooLong f g = absurd (omega (arith, (large_number text at f).comes.short))
one_fault text (faults.NameTooLong at) faults.SourceTooLong f g = absurd (omega (arith, (long_name text at f).comes.short))

-- ---- tokens or a fault

-- no piece stands at the end of a text
end_is_stuck : IsStuck []
end_is_stuck piece after begins longest small = absurd (omega (arith, nonempty [] piece after begins))

does_not_stop : (text : List ℕ) (tokens : List Token) (at : ℕ) (rest : List ℕ) → AreTokensOf text tokens → StopsAt text at rest → ⊥
does_not_stop text tokens at rest are f =
    let same = (same_end text are.pieces f.comes.pieces [] rest are.cut are.small end_is_stuck f.comes.cut f.comes.small f.stuck).1 in
    let none : 0 ≡ length rest = ap length same in
    omega (arith, none, f.some)

-- a text with tokens has no fault
pub no_fault : (text : List ℕ) (tokens : List Token) (fault : LexFault) → AreTokensOf text tokens → IsFaultOf text fault → ⊥
no_fault text tokens (faults.BadByte at) are f = does_not_stop text tokens at f.0 are (bad_byte text at f)
no_fault text tokens (faults.NumberTooLarge at) are f = does_not_stop text tokens at f.2.rest are (large_number text at f)
no_fault text tokens (faults.NameTooLong at) are f = does_not_stop text tokens at f.1.rest are (long_name text at f)
no_fault text tokens faults.SourceTooLong are f = omega (arith, are.short)

-- ---- places

cut_length : (text : List ℕ) (pieces : List Piece) (rest : List ℕ) → IsCut text pieces rest → length text ≡ length_of pieces + length rest
cut_length text [] rest cut = let len : length text ≡ length rest = ap length cut in omega (arith, len)
cut_length text (p ∷ ps) rest cut =
    let len : length text ≡ length (bytes_of p) + length cut.0 = ap length cut.1.parts ∙ length-append (bytes_of p) cut.0 in
    omega (arith, len, cut_length cut.0 ps rest cut.3)

-- the tokens of a cut hold some bytes each, up to its end
tokens_inside : (text : List ℕ) (pieces : List Piece) (rest : List ℕ) (at limit : ℕ) → IsCut text pieces rest → at + length_of pieces ≤ limit → All (LiesWithin limit) (tokens_of at pieces)
tokens_inside text [] rest at limit cut le = λ k d lt. absurd (omega arith)
tokens_inside text (White bytes ∷ ps) rest at limit cut le = tokens_inside cut.0 ps rest (at + length bytes) limit cut.3 (omega arith)
tokens_inside text (Comment bytes ∷ ps) rest at limit cut le = tokens_inside cut.0 ps rest (at + length bytes) limit cut.3 (omega arith)
tokens_inside text (Lexeme kind bytes ∷ ps) rest at limit cut le =
    let some : length bytes ≡ 0 → ⊥ = piece_some (Lexeme kind bytes) cut.1.is_piece in
    All-cons (LiesWithin limit) (record { kind = kind; span = record { start = at; end = at + length bytes } }) (tokens_of (at + length bytes) ps) (omega (arith, some), omega arith)
    (tokens_inside cut.0 ps rest (at + length bytes) limit cut.3 (omega arith))

-- the tokens of a text lie within it
pub places_tokens : (text : List ℕ) (tokens : List Token) → AreTokensOf text tokens → All (LiesWithin (length text)) tokens
places_tokens text tokens are =
    let len = cut_length text are.pieces [] are.cut in
    subst (λ (ts : List Token). All (LiesWithin (length text)) ts) (sym are.lexemes) (tokens_inside text are.pieces [] 0 (length text) are.cut (omega (arith, len)))

stops_inside : (text : List ℕ) (at : ℕ) (rest : List ℕ) → StopsAt text at rest → at < length text
stops_inside text at rest f = omega (arith, f.comes.place, f.some, cut_length text f.comes.pieces rest f.comes.cut)

-- the fault of a text lies within it
pub places_fault : (text : List ℕ) (fault : LexFault) → IsFaultOf text fault → IfSome (place_of_fault fault) (λ at. at < length text)
places_fault text (faults.BadByte at) f = stops_inside text at f.0 (bad_byte text at f)
places_fault text (faults.NumberTooLarge at) f = stops_inside text at f.2.rest (large_number text at f)
places_fault text (faults.NameTooLong at) f = stops_inside text at f.1.rest (long_name text at f)
places_fault text faults.SourceTooLong f = tt
