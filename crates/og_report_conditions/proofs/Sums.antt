-- The loops over the terms of a form and the variables.
use Rattle.std.proofs.Common.{◌≡◌, ◌++◌, ◌∙◌, ℕ, zero, suc, ◌+◌, ◌<◌, ℤ, List, [], ◌∷◌, length, drop, Some, None, ap, ap₂, sym, append_assoc, drop-cons, add-one}
use Rattle.std.specs.Prelude.{slice_get}
use Rattle.std.proofs.lemmas.Option.{none-some, slice_get_within, get_or_from_slice_get}
use Rattle.std.proofs.lemmas.List.{append-nil}
use Rattle.std.proofs.Math.Seq.{drop-nil}
use Rattle.og_linear.specs.Linear.{Terms}
use Rattle.og_report_conditions.specs.Script.{term_text, terms_text, variable_lines, variables_lines}

-- the i-th term, and those after it
drop_term : (ts : Terms) (i : ℕ) (t : ℕ × ℤ) → slice_get ts i ≡ Some t → drop i ts ≡ t ∷ drop (i + 1) ts
drop_term ts i t found = drop-cons ts i t (slice_get_within ts i t found) ∙ ap₂ (λ u j. u ∷ drop j ts) (get_or_from_slice_get ts i t t found) (sym (add-one i))

-- there are none after the end
pub no_terms_left : (names : List (List ℕ)) (text : List ℕ) (ts : Terms) (i : ℕ) → slice_get ts i ≡ None → text ≡ text ++ terms_text names (drop i ts)
no_terms_left names text ts i e = left (drop i ts) (gone ts i e)
  where
    gone : (ts : Terms) (i : ℕ) → slice_get ts i ≡ None → drop i ts ≡ []
    gone [] i e = drop-nil i
    gone (u ∷ us) zero e = absurd (none-some u (sym e))
    gone (u ∷ us) (suc i) e = gone us i e

    left : (l : Terms) → l ≡ [] → text ≡ text ++ terms_text names l
    left l e = sym (append-nil text) ∙ ap (λ k. text ++ terms_text names k) (sym e)

-- one term more
pub more_terms : (names : List (List ℕ)) (before after whole : List ℕ) (ts : Terms) (i : ℕ) (t : ℕ × ℤ) → slice_get ts i ≡ Some t → after ≡ before ++ term_text names t.0 t.1
    → before ++ terms_text names (drop i ts) ≡ whole → after ++ terms_text names (drop (i + 1) ts) ≡ whole
more_terms names before after whole ts i t found made h =
    let later = terms_text names (drop (i + 1) ts) in
    ap (λ l. l ++ later) made
    ∙ append_assoc before (term_text names t.0 t.1) later
    ∙ ap (λ l. before ++ terms_text names l) (sym (drop_term ts i t found))
    ∙ h

-- ---- the loop over the variables

pub more_variables : (names all : List (List ℕ)) (before after whole : List ℕ) (i : ℕ) → i < length all → after ≡ before ++ variable_lines names i → before ++ variables_lines names i (drop i all) ≡ whole
    → after ++ variables_lines names (i + 1) (drop (i + 1) all) ≡ whole
more_variables names all before after whole i h made e =
    let here : variables_lines names i (drop i all) ≡ variable_lines names i ++ variables_lines names (i + 1) (drop (i + 1) all) =
    ap (variables_lines names i) (drop-cons all i [] h) ∙ ap (λ k. variable_lines names i ++ variables_lines names k (drop k all)) (sym (add-one i)) in
    ap (λ l. l ++ variables_lines names (i + 1) (drop (i + 1) all)) made
    ∙ append_assoc before (variable_lines names i) (variables_lines names (i + 1) (drop (i + 1) all))
    ∙ ap (λ l. before ++ l) (sym here)
    ∙ e

-- ---- three pieces

pub three : (t0 t1 t2 t3 a b c : List ℕ) → t1 ≡ t0 ++ a → t2 ≡ t1 ++ b → t3 ≡ t2 ++ c → t3 ≡ t0 ++ (a ++ (b ++ c))
three t0 t1 t2 t3 a b c e1 e2 e3 = e3 ∙ ap (λ l. l ++ c) (e2 ∙ ap (λ l. l ++ b) e1) ∙ append_assoc (t0 ++ a) b c ∙ append_assoc t0 a (b ++ c)
