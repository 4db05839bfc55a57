-- Which bytes are a name.
use Rattle.std.proofs.Common.{◌≡◌, ◌∙◌, ℕ, List, [], ◌∷◌, length, Bool, true, false, true≢false, Option, Some, None, inl, inr, refl, sym, ap, arith}
use Rattle.std.specs.Bool.{MatchBool}
use Rattle.std.specs.Cmp.Lexicographic.{bytes_decides, nat_list_eq_equiv}
use Rattle.og_text.proofs.OneCut.{one_tokens, no_fault}
use Rattle.og_text.specs.Cut.{AreTokensOf}
use Rattle.og_text.specs.declared.fault.LexFault.{LexFault}
use Rattle.og_text.specs.declared.fault.LexError.TheVariants as errors
use Rattle.og_text.specs.declared.token.Token.{Token}
use Rattle.og_text.specs.Refused.{IsFaultOf}
use Rattle.og_template.specs.Mask.{masked, masked_from, marks, place_after}
use Rattle.og_template.specs.Words.{AreWordsOf, IsErrorOf, merged}
use Rattle.og_template.specs.declared.mask.Place.{Place}
use Rattle.og_template.specs.declared.mask.Place.TheVariants as places
use Rattle.og_template.specs.declared.word.Word.{Word}
use Rattle.og_layout.specs.Faults.{IsErrorOfWords}
use Rattle.og_layout.specs.Pieces.{AreWords}
use Rattle.og_lsp_names.specs.Names.{name_in, name_of_kind, is_this, is_one_word, is_one_token, IsTemplateName, IsOutlineName}

this_same : (name : List ℕ) (o : Option (List ℕ)) → is_this name o ≡ true → o ≡ Some name
this_same name None is = absurd (true≢false (sym is))
this_same name (Some bytes) is = ap (λ (b : List ℕ). Some b) ((bytes_decides bytes name).0 is)

this_own : (name : List ℕ) (o : Option (List ℕ)) → o ≡ Some name → is_this name o ≡ true
this_own name o is = ap (is_this name) is ∙ nat_list_eq_equiv.refl name

-- ---- in a template

one_words : (text : List ℕ) (a b : List Word) → AreWordsOf text a → AreWordsOf text b → a ≡ b
one_words text a b h k = h.are ∙ ap (λ (t : List Token). merged t (marks text)) (one_tokens (masked text) h.tokens k.tokens h.cut k.cut) ∙ sym k.are

no_word : (name : List ℕ) (ws : List Word) → AreWordsOf name ws → is_one_word name ws ≡ false → IsTemplateName name → ⊥
no_word name ws are not n = true≢false (sym (this_own name (name_in n.word.kind) n.is) ∙ ap (is_one_word name) (one_words name (n.word ∷ []) ws n.cut are) ∙ not)

pub word_is : (name : List ℕ) (ws : List Word) → AreWordsOf name ws → MatchBool (is_one_word name ws) (IsTemplateName name) (IsTemplateName name → ⊥)
word_is name [] are = no_word name [] are refl
word_is name (w ∷ []) are = from (is_this name (name_in w.kind)) refl
  where
    from : (b : Bool) → is_this name (name_in w.kind) ≡ b → MatchBool b (IsTemplateName name) (IsTemplateName name → ⊥)
    from true e = record { word = w; cut = are; is = this_same name (name_in w.kind) e }
    from false e = no_word name (w ∷ []) are e
word_is name (w ∷ v ∷ ws) are = no_word name (w ∷ v ∷ ws) are refl

length_masked : (place : Place) (text : List ℕ) → length (masked_from place text) ≡ length text
length_masked place [] = refl
length_masked place (b ∷ bs) = let rest = length_masked (place_after place b bs) bs in omega (arith, rest)

masked_none : (text : List ℕ) (fault : LexFault) → IsErrorOf text (errors.Fault fault) → (words : List Word) → AreWordsOf text words → ⊥
masked_none text fault is words are =
    let short = are.cut.short in
    let same = length_masked places.Outside text in
    elim is [
      | inl long ↦ let far = long.0 in omega (arith, far, short, same)
      | inr f ↦ no_fault (masked text) are.tokens fault are.cut f
    ]

pub word_none : (name : List ℕ) (fault : LexFault) → IsErrorOf name (errors.Fault fault) → IsTemplateName name → ⊥
word_none name fault is n = masked_none name fault is (n.word ∷ []) n.cut

-- ---- in an outline

no_token : (name : List ℕ) (ts : List Token) → AreTokensOf name ts → is_one_token name ts ≡ false → IsOutlineName name → ⊥
no_token name ts are not n = true≢false (sym (this_own name (name_of_kind n.token.kind) n.is) ∙ ap (is_one_token name) (one_tokens name (n.token ∷ []) ts n.cut are) ∙ not)

pub token_is : (name : List ℕ) (ts : List Token) → AreTokensOf name ts → MatchBool (is_one_token name ts) (IsOutlineName name) (IsOutlineName name → ⊥)
token_is name [] are = no_token name [] are refl
token_is name (t ∷ []) are = from (is_this name (name_of_kind t.kind)) refl
  where
    from : (b : Bool) → is_this name (name_of_kind t.kind) ≡ b → MatchBool b (IsOutlineName name) (IsOutlineName name → ⊥)
    from true e = record { token = t; cut = are; is = this_same name (name_of_kind t.kind) e }
    from false e = no_token name (t ∷ []) are e
token_is name (t ∷ u ∷ ts) are = no_token name (t ∷ u ∷ ts) are refl

pub token_none : (name : List ℕ) (fault : LexFault) → IsFaultOf name fault → IsOutlineName name → ⊥
token_none name fault is n = no_fault name (n.token ∷ []) fault n.cut is

-- ---- in any text

pub no_words : (text : List ℕ) (fault : LexFault) → IsErrorOfWords text (errors.Fault fault) → (others : List Word) → AreWords text others → ⊥
no_words text fault (inl e) others (inl w) = masked_none text fault e.1 others w.1
no_words text fault (inl e) others (inr w) = true≢false (sym e.0 ∙ w.0)
no_words text fault (inr e) others (inl w) = true≢false (sym w.0 ∙ e.0)
no_words text fault (inr e) others (inr w) = no_fault text w.1 fault w.2 e.1
