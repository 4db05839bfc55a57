-- Lists of ranges, one after another.
use Rattle.std.proofs.Common.{◌≡◌, ℕ, zero, suc, ℤ, Vec, List, [], ◌∷◌, ◌++◌, length, map, sym, ap, ◌∙◌, subst}
use Rattle.std.specs.Global.{Global}
use Rattle.std.proofs.lemmas.List.{map-append}
use Rattle.std.proofs.lemmas.Option.{same_Some, none-some}
use Rattle.og_explore.specs.From.{HaveLength}

have_more : (n : ℕ) (ls : List (List (ℤ × ℤ))) (l : List (ℤ × ℤ)) → HaveLength n ls → length l ≡ n → HaveLength n (ls ++ l ∷ [])
have_more n [] l h e zero r is = ap length (sym (same_Some l r is)) ∙ e
have_more n [] l h e (suc i) r is = absurd (none-some r is)
have_more n (x ∷ ls) l h e zero r is = h zero r is
have_more n (x ∷ ls) l h e (suc i) r is = have_more n ls l (λ j. h (suc j)) e i r is

-- the ranges of each
abbrev pub ranges_of : List (Vec (ℤ × ℤ) Global) → List (List (ℤ × ℤ))
ranges_of = map (λ l. l.items)

pub have_pushed : (n : ℕ) (ls all : List (Vec (ℤ × ℤ) Global)) (l : Vec (ℤ × ℤ) Global) → all ≡ ls ++ l ∷ [] → HaveLength n (ranges_of ls) → length l.items ≡ n → HaveLength n (ranges_of all)
have_pushed n ls all l is h e = subst (λ z. HaveLength n (ranges_of z)) (sym is) (subst (HaveLength n) (sym (map-append (λ x. x.items) ls (l ∷ []))) (have_more n (ranges_of ls) l.items h e))

pub have_none : (n : ℕ) (ls : List (Vec (ℤ × ℤ) Global)) → ls ≡ [] → HaveLength n (ranges_of ls)
have_none n ls none = subst (λ z. HaveLength n (ranges_of z)) (sym none) (λ i r e. absurd (none-some r e))
