-- Lines cut at their ends, and a form's terms one by one.
use Rattle.std.proofs.Common.{◌≡◌, ◌+◌, ◌-◌, ◌<◌, ◌≤◌, ℕ, zero, suc, ℤ, List, [], ◌∷◌, ◌++◌, length, take, drop, Bool, true, false, get_or, Some, None, refl, ap, sym, ◌∙◌, arith, if◌then◌else◌}
use Rattle.std.specs.Prelude.{slice_get}
use Rattle.std.proofs.lemmas.Option.{none-some, slice_get_within, get_or_from_slice_get}
use Rattle.std.proofs.lemmas.List.{take_more, drop_more, append_assoc, append-nil}
use Rattle.og_linear.specs.Linear.{Terms}
use Rattle.og_report_text.specs.Quotes.{is_blank, kept_before, trimmed}

-- ---- blanks at the end

blank_end : (bs : List ℕ) (b : ℕ) → is_blank b ≡ true → trimmed (bs ++ b ∷ []) ≡ trimmed bs
blank_end [] b e = ap (λ (t : Bool). if t then [] else b ∷ []) e
blank_end (c ∷ cs) b e = ap (kept_before c) (blank_end cs b e)

keeps : (c : ℕ) (cs : List ℕ) (b : ℕ) → kept_before c (cs ++ b ∷ []) ≡ c ∷ (cs ++ b ∷ [])
keeps c [] b = refl
keeps c (d ∷ ds) b = refl

other_end : (bs : List ℕ) (b : ℕ) → is_blank b ≡ false → trimmed (bs ++ b ∷ []) ≡ bs ++ b ∷ []
other_end [] b e = ap (λ (t : Bool). if t then [] else b ∷ []) e
other_end (c ∷ cs) b e = ap (kept_before c) (other_end cs b e) ∙ keeps c cs b

last_byte : (bs : List ℕ) (n d : ℕ) → 0 < n → n ≤ length bs → take n bs ≡ take (n - 1) bs ++ get_or bs (n - 1) d ∷ []
last_byte bs n d some h =
    let m : (n - 1) + 1 ≡ n = omega (arith, some) in
    ap (λ k. take k bs) (sym m) ∙ take_more bs (n - 1) d (omega (arith, some, h))

pub trim_more : (bs : List ℕ) (n d : ℕ) → 0 < n → n ≤ length bs → is_blank (get_or bs (n - 1) d) ≡ true → trimmed (take (n - 1) bs) ≡ trimmed (take n bs)
trim_more bs n d some h e =
    sym (ap trimmed (last_byte bs n d some h) ∙ blank_end (take (n - 1) bs) (get_or bs (n - 1) d) e)

pub trim_end : (bs : List ℕ) (n d : ℕ) → 0 < n → n ≤ length bs → is_blank (get_or bs (n - 1) d) ≡ false → trimmed (take n bs) ≡ take n bs
trim_end bs n d some h e =
    ap trimmed (last_byte bs n d some h)
    ∙ other_end (take (n - 1) bs) (get_or bs (n - 1) d) e
    ∙ sym (last_byte bs n d some h)

-- ---- terms

pub term_more : (before after : Terms) (ts : Terms) (i : ℕ) (t : ℕ × ℤ) → slice_get ts i ≡ Some t → after ≡ before ++ t ∷ [] → before ++ drop i ts ≡ ts → after ++ drop (i + 1) ts ≡ ts
term_more before after ts i t found pushed same =
    ap (λ l. l ++ drop (i + 1) ts) pushed
    ∙ append_assoc before (t ∷ []) (drop (i + 1) ts)
    ∙ ap (λ u. before ++ u ∷ drop (i + 1) ts) (sym (get_or_from_slice_get ts i t t found))
    ∙ ap (λ l. before ++ l) (sym (drop_more ts i t (slice_get_within ts i t found)))
    ∙ same

gone : (ts : Terms) (i : ℕ) → slice_get ts i ≡ None → drop i ts ≡ []
gone [] zero e = refl
gone [] (suc i) e = refl
gone (u ∷ us) zero e = absurd (none-some u (sym e))
gone (u ∷ us) (suc i) e = gone us i e

pub term_end : (before ts : Terms) (i : ℕ) → slice_get ts i ≡ None → before ++ drop i ts ≡ ts → before ≡ ts
term_end before ts i e same = sym (append-nil before) ∙ ap (λ l. before ++ l) (sym (gone ts i e)) ∙ same
