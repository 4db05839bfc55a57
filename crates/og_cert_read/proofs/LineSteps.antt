-- The words of a line, one at a time.
use Rattle.std.proofs.Common.{◌≡◌, ℕ, suc, ◌+◌, ◌<◌, ◌≤◌, List, [], ◌∷◌, ◌++◌, length, refl, ap, sym, ◌∙◌, arith, Bool, true, false, cond, Option, Some, None, option_map, append_assoc, ℤ}
use Rattle.std.specs.Prelude.{nat_le, ◌==◌}
use Rattle.og_linear.specs.Linear.{Terms}
use Rattle.og_cert_text.specs.Tree.{Ref, Combination}
use Rattle.og_cert_read.specs.Words.{and_then, before, past, words_in, words_of, on_first, term_of, terms_of, part_of, parts_of}
use Rattle.og_cert_text.proofs.Forms.{le_true, le_false}

-- the first word and those after it
pub words_split : (text : List ℕ) → words_in text ≡ before 32 text ∷ words_of (past 32 text)
words_split [] = refl
words_split (c ∷ cs) = from (c == 32) (words_split cs)
  where
    from : (b : Bool) → words_in cs ≡ before 32 cs ∷ words_of (past 32 cs)
        → cond b ([] ∷ words_in cs) (on_first c (words_in cs)) ≡ cond b [] (c ∷ before 32 cs) ∷ words_of (cond b (Some cs) (past 32 cs))
    from true e = refl
    from false e = ap (on_first c) e

pub past_shorter : (b : ℕ) (text rest : List ℕ) → past b text ≡ Some rest → length rest < length text
past_shorter b [] rest h = cc
past_shorter b (c ∷ cs) rest h = from (c == b) h (λ e. past_shorter b cs rest e)
  where
    from : (t : Bool) → cond t (Some cs) (past b cs) ≡ Some rest → (past b cs ≡ Some rest → length rest < length cs) → length rest < length (c ∷ cs)
    from true e later = let same : cs ≡ rest = cc in let k = ap length same in omega (arith, k)
    from false e later = let k = later e in omega (arith, k)

abbrev pub with_front : {X : Type 0} → List X → Option (List X) → Option (List X)
with_front front None = None
with_front front (Some xs) = Some (front ++ xs)

one_more : {X : Type 0} (front : List X) (x : X) (o : Option (List X)) → with_front front (option_map (λ xs. x ∷ xs) o) ≡ with_front (front ++ x ∷ []) o
one_more front x None = refl
one_more front x (Some xs) = ap Some (sym (append_assoc front (x ∷ []) xs))

pub term_turn : (front : Combination) (text : List ℕ) (t : ℕ × Ref) → term_of (before 32 text) ≡ Some t → with_front front (terms_of (words_in text)) ≡ with_front (front ++ t ∷ []) (terms_of (words_of (past 32 text)))
term_turn front text t e =
    ap (λ ws. with_front front (terms_of ws)) (words_split text)
    ∙ ap (λ o. with_front front (and_then o (λ t. option_map (λ ts. t ∷ ts) (terms_of (words_of (past 32 text)))))) e
    ∙ one_more front t (terms_of (words_of (past 32 text)))

pub term_fails : (front : Combination) (text : List ℕ) → term_of (before 32 text) ≡ None → with_front front (terms_of (words_in text)) ≡ None
term_fails front text e =
    ap (λ ws. with_front front (terms_of ws)) (words_split text)
    ∙ ap (λ o. with_front front (and_then o (λ t. option_map (λ ts. t ∷ ts) (terms_of (words_of (past 32 text)))))) e

abbrev then_parts : ℕ → List (List ℕ) → ℕ × ℤ → Option Terms
then_parts low ws t = cond (nat_le low t.0) (option_map (λ ts. t ∷ ts) (parts_of (t.0 + 1) ws)) None

pub part_turn : (front : Terms) (low : ℕ) (text : List ℕ) (t : ℕ × ℤ) → part_of (before 32 text) ≡ Some t → low ≤ t.0 → with_front front (parts_of low (words_in text)) ≡ with_front (front ++ t ∷ []) (parts_of (t.0 + 1) (words_of (past 32 text)))
part_turn front low text t e le =
    ap (λ ws. with_front front (parts_of low ws)) (words_split text)
    ∙ ap (λ o. with_front front (and_then o (then_parts low (words_of (past 32 text))))) e
    ∙ ap (λ b. with_front front (cond b (option_map (λ ts. t ∷ ts) (parts_of (t.0 + 1) (words_of (past 32 text)))) None)) (le_true low t.0 le)
    ∙ one_more front t (parts_of (t.0 + 1) (words_of (past 32 text)))

pub part_fails : (front : Terms) (low : ℕ) (text : List ℕ) → part_of (before 32 text) ≡ None → with_front front (parts_of low (words_in text)) ≡ None
part_fails front low text e =
    ap (λ ws. with_front front (parts_of low ws)) (words_split text)
    ∙ ap (λ o. with_front front (and_then o (then_parts low (words_of (past 32 text))))) e

pub part_falls : (front : Terms) (low : ℕ) (text : List ℕ) (t : ℕ × ℤ) → part_of (before 32 text) ≡ Some t → t.0 < low → with_front front (parts_of low (words_in text)) ≡ None
part_falls front low text t e lt =
    ap (λ ws. with_front front (parts_of low ws)) (words_split text)
    ∙ ap (λ o. with_front front (and_then o (then_parts low (words_of (past 32 text))))) e
    ∙ ap (λ b. with_front front (cond b (option_map (λ ts. t ∷ ts) (parts_of (t.0 + 1) (words_of (past 32 text)))) None)) (le_false low t.0 lt)

-- how much is left
abbrev pub size : Option (List ℕ) → ℕ
size None = 0
size (Some text) = suc (length text)

pub smaller : (b : ℕ) (text : List ℕ) (o : Option (List ℕ)) → o ≡ past b text → size o < suc (length text)
smaller b text None e = omega arith
smaller b text (Some rest) e = let k = past_shorter b text rest (sym e) in omega (arith, k)

pub term_stops : (front : Combination) (o : Option (List ℕ)) (text word : List ℕ) (whole : Option Combination) → o ≡ Some text → word ≡ before 32 text → None ≡ term_of word → with_front front (terms_of (words_of o)) ≡ whole → None ≡ whole
term_stops front o text word whole is e none h =
    sym (term_fails front text (ap term_of (sym e) ∙ sym none)) ∙ ap (λ p. with_front front (terms_of (words_of p))) (sym is) ∙ h

pub term_goes : (front : Combination) (o next : Option (List ℕ)) (text word : List ℕ) (t : ℕ × Ref) (whole : Option Combination) → o ≡ Some text → word ≡ before 32 text → next ≡ past 32 text → Some t ≡ term_of word
    → with_front front (terms_of (words_of o)) ≡ whole → with_front (front ++ t ∷ []) (terms_of (words_of next)) ≡ whole
term_goes front o next text word t whole is e b some h =
    ap (λ p. with_front (front ++ t ∷ []) (terms_of (words_of p))) b
    ∙ sym (term_turn front text t (ap term_of (sym e) ∙ sym some))
    ∙ ap (λ p. with_front front (terms_of (words_of p))) (sym is) ∙ h

pub part_stops : (front : Terms) (low : ℕ) (o : Option (List ℕ)) (text word : List ℕ) (whole : Option Terms) → o ≡ Some text → word ≡ before 32 text → None ≡ part_of word → with_front front (parts_of low (words_of o)) ≡ whole → None ≡ whole
part_stops front low o text word whole is e none h =
    sym (part_fails front low text (ap part_of (sym e) ∙ sym none)) ∙ ap (λ p. with_front front (parts_of low (words_of p))) (sym is) ∙ h

pub part_low : (front : Terms) (low : ℕ) (o : Option (List ℕ)) (text word : List ℕ) (t : ℕ × ℤ) (whole : Option Terms) → o ≡ Some text → word ≡ before 32 text → Some t ≡ part_of word → t.0 < low → with_front front (parts_of low (words_of o)) ≡ whole → None ≡ whole
part_low front low o text word t whole is e some lt h =
    sym (part_falls front low text t (ap part_of (sym e) ∙ sym some) lt) ∙ ap (λ p. with_front front (parts_of low (words_of p))) (sym is) ∙ h

pub part_goes : (front : Terms) (low : ℕ) (o next : Option (List ℕ)) (text word : List ℕ) (t : ℕ × ℤ) (whole : Option Terms) → o ≡ Some text → word ≡ before 32 text → next ≡ past 32 text → Some t ≡ part_of word → low ≤ t.0
    → with_front front (parts_of low (words_of o)) ≡ whole → with_front (front ++ t ∷ []) (parts_of (t.0 + 1) (words_of next)) ≡ whole
part_goes front low o next text word t whole is e b some le h =
    ap (λ p. with_front (front ++ t ∷ []) (parts_of (t.0 + 1) (words_of p))) b
    ∙ sym (part_turn front low text t (ap part_of (sym e) ∙ sym some) le)
    ∙ ap (λ p. with_front front (parts_of low (words_of p))) (sym is) ∙ h

pub shrinks : (o next : Option (List ℕ)) (text : List ℕ) → o ≡ Some text → next ≡ past 32 text → size next < size o
shrinks o next text is b = let k = smaller 32 text next b in let e = ap size is in omega (arith, k, e)
