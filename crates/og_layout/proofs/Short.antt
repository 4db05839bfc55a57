-- A text that has words is within the limit of a source, and what its errors are.
use Rattle.std.proofs.Common.{◌≡◌, ℕ, ◌^◌, ◌≤◌, List, [], ◌∷◌, length, map, ap, refl, subst, inl, inr, suc}
use Rattle.og_text.specs.declared.fault.LexError.{LexError}
use Rattle.og_text.specs.declared.fault.LexError.TheVariants as lex
use Rattle.og_template.specs.declared.mask.Place.{Place}
use Rattle.og_template.specs.declared.mask.Place.TheVariants.{Outside}
use Rattle.og_template.specs.declared.word.Word.{Word}
use Rattle.og_template.specs.Mask.{masked_from, place_after}
use Rattle.og_layout.specs.declared.parts.Part.{Part}
use Rattle.og_layout.specs.Pieces.{AreWords, AreParts, piece_in, HaveSamePieces}
use Rattle.og_layout.specs.Faults.{IsErrorOfWords, IsErrorOf, from_lex}

length_masked : (place : Place) (text : List ℕ) → length (masked_from place text) ≡ length text
length_masked place [] = refl
length_masked place (b ∷ bs) = ap (λ (n : ℕ). suc n) (length_masked (place_after place b bs) bs)

pub short_words : (text : List ℕ) (words : List Word) → AreWords text words → length text ≤ 2 ^ 20
short_words text words (inl w) = subst (λ (n : ℕ). n ≤ 2 ^ 20) (length_masked Outside text) w.1.cut.short
short_words text words (inr o) = o.2.short

pub short_parts : (text : List ℕ) (parts : List Part) → AreParts text parts → length text ≤ 2 ^ 20
short_parts text parts are = short_words text are.0 are.1

pub memory_words : (text : List ℕ) (words : List Word) → AreWords text words → IsErrorOfWords text lex.Memory
memory_words text words (inl w) = inl (w.0, short_words text words (inl w))
memory_words text words (inr o) = inr (o.0, o.2.short)

pub error_parts : (text : List ℕ) (error : LexError) → IsErrorOfWords text error → IsErrorOf text (from_lex error)
error_parts text lex.Memory (inl t) = t.1
error_parts text lex.Memory (inr o) = o.1
error_parts text (lex.Fault fault) is = is

pub same_pieces_are : (text other : List ℕ) (parts others : List Part) → AreParts text parts → AreParts other others
    → map (piece_in text) parts ≡ map (piece_in other) others → HaveSamePieces text other
same_pieces_are text other parts others are also same = (map (piece_in text) parts, (parts, are, refl), (others, also, same))
