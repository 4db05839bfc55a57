-- Parts of a text.
use Rattle.std.proofs.Common.{◌≡◌, ℕ, zero, suc, ◌+◌, ◌-◌, ◌<◌, List, [], ◌∷◌, length, get_or, take, drop, refl, ap, sym, ◌∙◌, arith, true, false, cond, Some, None, length-drop, add-one}
use Rattle.std.specs.Prelude.{◌==◌}
use Rattle.std.proofs.lemmas.Bool.Decides.{nat_tests}
use Rattle.std.proofs.lemmas.List.{take_all}
use Rattle.og_cert_read.specs.Words.{before, past, after}

apart : (a b : ℕ) → (a ≡ b → ⊥) → (a == b) ≡ false
apart a b h = grind (arith, nat_tests)

pub same : (a b : ℕ) → a ≡ b → (a == b) ≡ true
same a b h = grind (arith, nat_tests)

pub before_at : (text : List ℕ) (b i : ℕ) → i < length text → get_or text i 0 ≡ b → ((k : ℕ) → k < i → get_or text k 0 ≡ b → ⊥) → (take i text ≡ before b text) × (Some (drop (suc i) text) ≡ past b text)
before_at [] b i lt at none = absurd (omega arith)
before_at (c ∷ cs) b zero lt at none =
    (ap (λ t. cond t [] (c ∷ before b cs)) (sym (same c b at)), ap (λ t. cond t (Some cs) (past b cs)) (sym (same c b at)))
before_at (c ∷ cs) b (suc i) lt at none =
    let r = before_at cs b i (omega arith) at (λ k l. none (suc k) (omega arith)) in
    let no = apart c b (none 0 (omega arith)) in
    (ap (λ l. c ∷ l) r.0 ∙ ap (λ t. cond t [] (c ∷ before b cs)) (sym no), r.1 ∙ ap (λ t. cond t (Some cs) (past b cs)) (sym no))

pub before_none : (text : List ℕ) (b : ℕ) → ((k : ℕ) → k < length text → get_or text k 0 ≡ b → ⊥) → (text ≡ before b text) × (None ≡ past b text)
before_none [] b none = (refl, refl)
before_none (c ∷ cs) b none =
    let r = before_none cs b (λ k l. none (suc k) (omega arith)) in
    let no = apart c b (none 0 (omega arith)) in
    (ap (λ l. c ∷ l) r.0 ∙ ap (λ t. cond t [] (c ∷ before b cs)) (sym no), r.1 ∙ ap (λ t. cond t (Some cs) (past b cs)) (sym no))

pub tail_all : (text : List ℕ) (i : ℕ) → take (length text - (i + 1)) (drop (i + 1) text) ≡ drop (suc i) text
tail_all text i = take_all (length text - (i + 1)) (drop (i + 1) text) (omega (arith, length-drop (i + 1) text)) ∙ ap (λ k. drop k text) (add-one i)

after_nothing : (ps : List ℕ) → 0 < length ps → after ps [] ≡ None
after_nothing [] lt = absurd (omega arith)
after_nothing (p ∷ ps) lt = refl

-- the text ends before the front does
pub after_short : (front rest text : List ℕ) (i : ℕ) → i < length front → length rest ≡ 0 → after (drop i front) rest ≡ after front text → None ≡ after front text
after_short front [] text i lt short e = sym (after_nothing (drop i front) (omega (arith, length-drop i front))) ∙ e
after_short front (b ∷ bs) text i lt short e = absurd (omega (arith, short))
