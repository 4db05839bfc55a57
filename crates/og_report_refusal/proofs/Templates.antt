-- The words of a template, and reasons as they are shown.
use Rattle.std.proofs.Common.{◌≡◌, ◌≤◌, ◌<◌, ◌^◌, ◌++◌, ℕ, List, [], ◌∷◌, length, map, inl, inr, arith, refl, sym, subst, Bool, true, false, Option, None, Some}
use Rattle.std.specs.Prelude.{◌==◌, not, nat_lt, IfSome, IsTrue, option_map, codes}
use Rattle.std.proofs.lemmas.Bool.Decides.{nat_tests}
use Rattle.og_text.proofs.OneCut.{no_fault}
use Rattle.og_text.specs.declared.fault.LexFault.{LexFault}
use Rattle.og_text.specs.declared.fault.LexError.TheVariants as errors
use Rattle.og_template.specs.Mask.{masked}
use Rattle.og_template.specs.Words.{AreWordsOf, IsErrorOf}
use Rattle.og_template.specs.declared.word.Word.{Word}
use Rattle.og_template_outline.specs.declared.fault.ExpandFault.{ExpandFault}
use Rattle.og_report_refusal.specs.Advice.{is_one_line, hint_text}
use Rattle.og_report_refusal.specs.Expansion.{IsTold}
use Rattle.og_report_refusal.specs.Quotes.{shown_byte}
use Rattle.og_report_refusal.specs.Templates.{IsShortReason, IsReasonBy}

-- a text with a fault has no words
pub no_words : (source : List ℕ) (fault : LexFault) → length source ≤ 2 ^ 20 → IsErrorOf source (errors.Fault fault)
    → (words : List Word) → AreWordsOf source words → ⊥
no_words source fault short is words are = elim is [
  | inl long ↦ omega (arith, long.0, short)
  | inr f ↦ no_fault (masked source) are.tokens fault are.cut f
]

-- no byte ends a line as it is shown
not_end : (b : ℕ) → not (shown_byte b == 10) ≡ true
not_end b = grind arith

pub shown_is_one_line : (bytes : List ℕ) → is_one_line (map shown_byte bytes) ≡ true
shown_is_one_line [] = refl
shown_is_one_line (b ∷ bs) = grind (arith, not_end b, shown_is_one_line bs)

lt_true : (a b : ℕ) → a < b → nat_lt a b ≡ true
lt_true a b h = grind (arith, nat_tests)

lt_false : (a b : ℕ) → b ≤ a → nat_lt a b ≡ false
lt_false a b h = grind (arith, nat_tests)

-- what each value is read as is one line
pub one_mapped : {A : Type 0} → (f : A → List ℕ) (o : Option A) → IfSome o (λ a. IsTrue (is_one_line (f a))) → IfSome (option_map f o) (λ t. IsTrue (is_one_line t))
one_mapped f None h = h
one_mapped f (Some a) h = h

-- the reason of a template that is not too long, and advice
pub told_of : (source : List ℕ) (fault : ExpandFault) (reason : List ℕ) (hint : Option (List ℕ)) (text : List ℕ) → length source ≤ 2 ^ 20
    → IsShortReason source fault reason → IfSome hint (λ t. IsTrue (is_one_line t)) → text ≡ map shown_byte reason ++ (codes "\n" ++ hint_text hint) → IsTold source fault text
told_of source fault reason hint text short is one e = record {
  reason = reason;
  is_reason = subst (λ (b : Bool). IsReasonBy b source fault reason) (sym (lt_false (2 ^ 20) (length source) short)) is;
  one_line = shown_is_one_line reason;
  hint = hint;
  one_hint = one;
  written = e;
}

-- of one that is too long
pub told_too_long : (source : List ℕ) (fault : ExpandFault) → 2 ^ 20 < length source → IsTold source fault (codes "a template has at most 1048576 bytes\n")
told_too_long source fault long = record {
  reason = codes "a template has at most 1048576 bytes";
  is_reason = subst (λ (b : Bool). IsReasonBy b source fault (codes "a template has at most 1048576 bytes")) (sym (lt_true (2 ^ 20) (length source) long)) refl;
  one_line = refl;
  hint = None;
  one_hint = tt;
  written = refl;
}
