-- The lines of conditions, one after the other and group after group; and numbers.
use Rattle.std.proofs.Common.{◌≡◌, ◌++◌, ◌∙◌, ℕ, suc, ◌+◌, ◌<◌, List, [], ◌∷◌, length, drop, get_or, map, Bool, true, false, cond, ◌&&◌, Option, Some, None, refl, ap, ap₂, sym, append_assoc, drop-cons, add-one, arith}
use Rattle.std.proofs.lemmas.List.{length-append, length-map}
use Rattle.std.specs.Prelude.{not, find}
use Rattle.std.specs.List.{list_all}
use Rattle.og_typed.specs.Syntax.{Program}
use Rattle.og_cond.specs.Condition as plain
use Rattle.og_cond.specs.Conditions.{conditions}
use Rattle.og_cond.specs.declared.condition.Condition.{Condition}
use Rattle.og_cond.specs.Seen.{seen}
use Rattle.og_report_text.specs.Listing.{condition_lines, conditions_lines}
use Rattle.og_report_conditions.specs.declared.form.Form.{Form}
use Rattle.og_report_conditions.specs.declared.form.Form.TheVariants as forms
use Rattle.og_report_conditions.specs.Listings.{opening_text, wanted_text, wanted_lines, listing_text}

module _ (form : Form) (only : Option (List ℕ)) (names : List (List ℕ)) (source : List ℕ) where
  abbrev lines : ℕ → List plain.Condition → List ℕ
  lines = wanted_lines form only names source

  -- the first condition of those that are left, and the others
  pub first_wanted : (all : List Condition) (i n : ℕ) (x : Condition) → i < length all → x ≡ get_or all i x
      → wanted_lines form only names source n (map seen (drop i all)) ≡ wanted_text form only names source n (seen x) ++ wanted_lines form only names source (n + 1) (map seen (drop (i + 1) all))
  first_wanted all i n x h is =
      ap (λ l. lines n (map seen l)) (drop-cons all i x h)
      ∙ ap (λ y. wanted_text form only names source n (seen y) ++ lines (suc n) (map seen (drop (suc i) all))) (sym is)
      ∙ ap₂ (λ m k. wanted_text form only names source n (seen x) ++ lines m (map seen (drop k all))) (sym (add-one n)) (sym (add-one i))

  -- the first group, and the others
  pub wanted-append : (n m : ℕ) (xs ys : List plain.Condition) → m ≡ n + length xs
      → wanted_lines form only names source n (xs ++ ys) ≡ wanted_lines form only names source n xs ++ wanted_lines form only names source m ys
  wanted-append n m [] ys e = let same : n ≡ m = omega (arith, e) in ap (λ k. lines k ys) same
  wanted-append n m (x ∷ xs) ys e =
      let next : m ≡ suc n + length xs = omega (arith, e) in
      ap (λ l. wanted_text form only names source n x ++ l) (wanted-append (suc n) m xs ys next)
      ∙ sym (append_assoc (wanted_text form only names source n x) (lines (suc n) xs) (lines m ys))

-- ---- a whole listing, of what was read of an outline

pub whole : (form : Form) (only : Option (List ℕ)) (o : Program) (source text places : List ℕ) (names : List (List ℕ)) (cs : List plain.Condition) → text ≡ opening_text form names → names ≡ o.names → places ≡ source
    → cs ≡ conditions o → text ++ wanted_lines form only names places 1 cs ≡ listing_text form only o source
whole form only o source text places names cs made named placed are =
    ap (λ t. t ++ wanted_lines form only names places 1 cs) made
    ∙ ap (λ ns. opening_text form ns ++ wanted_lines form only ns places 1 cs) named
    ∙ ap (λ p. opening_text form o.names ++ wanted_lines form only o.names p 1 cs) placed
    ∙ ap (λ l. opening_text form o.names ++ wanted_lines form only o.names source 1 l) are

-- ---- all conditions with their facts

pub all_lines : (names : List (List ℕ)) (source : List ℕ) (n : ℕ) (cs : List plain.Condition) → wanted_lines forms.Facts None names source n cs ≡ conditions_lines names source n cs
all_lines names source n [] = refl
all_lines names source n (c ∷ cs) = ap (λ l. condition_lines names source n c ++ l) (all_lines names source (suc n) cs)

-- ---- how many conditions are to come

pub counted : (old new : List plain.Condition) (group : List Condition) → old ≡ map seen group ++ new → length old ≡ length group + length new
counted old new group is = ap length is ∙ length-append (map seen group) new ∙ ap (λ k. k + length new) (length-map group seen)

-- ---- numbers that are all those of conditions

pub none_other : (p : ℕ → Bool) (ns : List ℕ) → find (λ m. not (p m)) ns ≡ None → list_all p ns ≡ true
none_other p [] e = refl
none_other p (n ∷ ns) e = go (p n) (none_other p ns) e
  where
    go : (b : Bool) → (find (λ m. not (p m)) ns ≡ None → list_all p ns ≡ true) → cond (not b) (Some n) (find (λ m. not (p m)) ns) ≡ None → (b && list_all p ns) ≡ true
    go true later h = later h
    go false later h = absurd cc

-- ---- five pieces

pub five : (t1 t2 t3 t4 t5 a b c d e : List ℕ) → t1 ≡ a → t2 ≡ t1 ++ b → t3 ≡ t2 ++ c → t4 ≡ t3 ++ d → t5 ≡ t4 ++ e → t5 ≡ a ++ (b ++ (c ++ (d ++ e)))
five t1 t2 t3 t4 t5 a b c d e e1 e2 e3 e4 e5 =
    e5 ∙ ap (λ l. l ++ e) (e4 ∙ ap (λ l. l ++ d) (e3 ∙ ap (λ l. l ++ c) (e2 ∙ ap (λ l. l ++ b) e1)))
    ∙ append_assoc ((a ++ b) ++ c) d e
    ∙ append_assoc (a ++ b) c (d ++ e)
    ∙ append_assoc a b (c ++ (d ++ e))
