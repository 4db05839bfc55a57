-- The symbol that is found is the longest.
use Rattle.std.proofs.Common.{◌≡◌, ℕ, ◌≤◌, List, [], ◌∷◌, length, get_or, Some, None, arith, refl}
use Rattle.og_text.specs.declared.token.TokenKind.{TokenKind}
use Rattle.og_text.specs.declared.front.Front.TheVariants as fronts
use Rattle.og_text.specs.Fronts.{pairs, singles, pair_of, single_of, IsOther, IsFront}
use Rattle.og_text.specs.Cut.{Lexeme}
use Rattle.og_text.proofs.Pieces.{longest_len, symbol_len, some_len, is_longest}
use Rattle.og_text.proofs.Found.{IsWritten, found_written}

pair_written : (b c : ℕ) (k : TokenKind) → pair_of b c ≡ Some k → IsWritten (b ∷ c ∷ []) k
pair_written b c k e = found_written pairs (b ∷ c ∷ []) k refl e

single_written : (b : ℕ) (k : TokenKind) → single_of b ≡ Some k → IsWritten (b ∷ []) k
single_written b k e = found_written singles (b ∷ []) k refl e

-- a symbol of two bytes at the front
pub pair_front : (text : List ℕ) (k : TokenKind) → 2 ≤ length text → IsOther (get_or text 0 0) → pair_of (get_or text 0 0) (get_or text 1 0) ≡ Some k → IsFront text (fronts.Lexeme k 2)
pair_front [] k lt other e = absurd (omega arith)
pair_front (b ∷ []) k lt other e = absurd (omega arith)
pair_front (b ∷ c ∷ rest) k lt other e =
    let s = pair_written b c k e in
    let longest : longest_len (b ∷ c ∷ rest) ≡ 2 = rw (other.0, other.1, other.2, other.3, e) refl in
    (b ∷ c ∷ [], record { begins = record { is_piece = s.0; parts = refl }; longest = is_longest (b ∷ c ∷ rest) (Lexeme k (b ∷ c ∷ [])) (omega (arith, longest)); some = omega arith }, s.2, refl, omega arith)

no_pair : (b : ℕ) (rest : List ℕ) → (2 ≤ length (b ∷ rest) → pair_of b (get_or (b ∷ rest) 1 0) ≡ None) → symbol_len b rest ≡ some_len (single_of b) 1 0
no_pair b [] h = refl
no_pair b (c ∷ rest) h = let e : pair_of b c ≡ None = h (omega arith) in rw e refl

-- a symbol of one byte at the front, where the first two are none
pub single_front : (text : List ℕ) (k : TokenKind) → 1 ≤ length text → IsOther (get_or text 0 0) → (2 ≤ length text → pair_of (get_or text 0 0) (get_or text 1 0) ≡ None) → single_of (get_or text 0 0) ≡ Some k → IsFront text (fronts.Lexeme k 1)
single_front [] k lt other none e = absurd (omega arith)
single_front (b ∷ rest) k lt other none e =
    let s = single_written b k e in
    let longest : longest_len (b ∷ rest) ≡ 1 = rw (other.0, other.1, other.2, other.3, no_pair b rest none, e) refl in
    (b ∷ [], record { begins = record { is_piece = s.0; parts = refl }; longest = is_longest (b ∷ rest) (Lexeme k (b ∷ [])) (omega (arith, longest)); some = omega arith }, s.2, refl, omega arith)
