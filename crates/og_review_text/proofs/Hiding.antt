-- The characters of a text, byte by byte.
use Rattle.std.proofs.Common.{◌≡◌, ℕ, ◌+◌, ◌<◌, ◌≤◌, List, [], ◌++◌, drop, length, get_or, drop_of_length-le, ap, subst, refl, sym}
use Rattle.std.proofs.lemmas.List.{drop_more}
use Rattle.og_review_text.specs.Hidden.{hidden_in, inside_after, told, told_from}
use Rattle.og_review_text.specs.declared.hidden.Inside.{Inside}

pub hidden_more : (text : List ℕ) (reader : Inside) (at i : ℕ) (d : ℕ) → i < length text
    → told_from reader at (drop i text) ≡ told reader at (hidden_in (drop i text)) ++ told_from (inside_after reader at (get_or text i d) (hidden_in (drop i text))) (at + 1) (drop (i + 1) text)
hidden_more text reader at i d lt =
    subst (λ (l : List ℕ). told_from reader at l ≡ told reader at (hidden_in l) ++ told_from (inside_after reader at (get_or text i d) (hidden_in l)) (at + 1) (drop (i + 1) text)) (sym (drop_more text i d lt)) refl

pub hidden_done : (text : List ℕ) (reader : Inside) (at i : ℕ) → length text ≤ i → told_from reader at (drop i text) ≡ []
hidden_done text reader at i h = ap (told_from reader at) (drop_of_length-le text h)
