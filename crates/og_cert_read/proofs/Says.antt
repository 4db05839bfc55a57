-- What a line says: the line whose text it is, within the limits.
use Rattle.std.proofs.Common.{◌≡◌, ◌≢◌, ℕ, ◌^◌, ◌<◌, ◌≤◌, List, [], ◌∷◌, ◌++◌, refl, ap, ap₂, sym, ◌∙◌, arith, Bool, ◌&&◌, true, false, cond, Some, None, option_map, subst}
use Rattle.std.specs.Prelude.{◌==◌, flat_map}
use Rattle.std.specs.Fmt.{decimal}
use Rattle.std.specs.List.{list_all}
use Rattle.og_cert_text.specs.Tree.{Ref, Known, Low, High, Combination}
use Rattle.og_cert_text.specs.Lines.{ref_text, term_text, combination_text, is_variable, is_factor, is_ref, is_some_terms, is_combination}
use Rattle.og_cert_text.proofs.Forms.{le_from, both_true, and_parts}
use Rattle.og_cert_read.specs.Words.{and_then, before, past, words_in, on_first, index_of, variable_of, factor_of, source_of, term_of, terms_of}
use Rattle.og_cert_read.proofs.Numbers.{and_some, map_some, some_same, apart, differ, equal, none_past, Lacks, lacks_both, lacks_decimal, decimal_begins, number_parts, index_sound, index_complete, variable_sound, variable_complete, factor_sound, factor_complete}

-- ---- parts of a text

same : (b : ℕ) → (b == b) ≡ true
same b = from (b == b) (differ b b)
  where
    from : (t : Bool) → (t ≡ false → b ≢ b) → t ≡ true
    from true f = refl
    from false f = absurd (f refl refl)

pub split_text : (b : ℕ) (text rest : List ℕ) → past b text ≡ Some rest → text ≡ before b text ++ b ∷ rest
split_text b [] rest h = cc
split_text b (c ∷ cs) rest h = from (c == b) refl h (split_text b cs rest)
  where
    from : (t : Bool) → (c == b) ≡ t → cond t (Some cs) (past b cs) ≡ Some rest → (past b cs ≡ Some rest → cs ≡ before b cs ++ b ∷ rest) → c ∷ cs ≡ cond t [] (c ∷ before b cs) ++ b ∷ rest
    from true e h later = ap₂ (λ x xs. x ∷ xs) (equal c b e) (some_same cs rest h)
    from false e h later = ap (λ xs. c ∷ xs) (later h)

pub no_split : (b : ℕ) (text : List ℕ) → past b text ≡ None → text ≡ before b text
no_split b [] h = refl
no_split b (c ∷ cs) h = from (c == b) h (no_split b cs)
  where
    from : (t : Bool) → cond t (Some cs) (past b cs) ≡ None → (past b cs ≡ None → cs ≡ before b cs) → c ∷ cs ≡ cond t [] (c ∷ before b cs)
    from true h later = cc
    from false h later = ap (λ xs. c ∷ xs) (later h)

pub cut_here : (b : ℕ) (w rest : List ℕ) → Lacks b w → (before b (w ++ b ∷ rest) ≡ w) × (past b (w ++ b ∷ rest) ≡ Some rest)
cut_here b [] rest l = (ap (λ t. cond t [] (b ∷ before b rest)) (same b), ap (λ t. cond t (Some rest) (past b rest)) (same b))
cut_here b (c ∷ cs) rest l =
    let r = cut_here b cs rest l.1 in
    (ap (λ t. cond t [] (c ∷ before b (cs ++ b ∷ rest))) l.0 ∙ ap (λ xs. c ∷ xs) r.0, ap (λ t. cond t (Some (cs ++ b ∷ rest)) (past b (cs ++ b ∷ rest))) l.0 ∙ r.1)

pub cut_nowhere : (b : ℕ) (w : List ℕ) → Lacks b w → (before b w ≡ w) × (past b w ≡ None)
cut_nowhere b [] l = (refl, refl)
cut_nowhere b (c ∷ cs) l =
    let r = cut_nowhere b cs l.1 in
    (ap (λ t. cond t [] (c ∷ before b cs)) l.0 ∙ ap (λ xs. c ∷ xs) r.0, ap (λ t. cond t (Some cs) (past b cs)) l.0 ∙ r.1)

-- ---- words

-- each with a space before it
abbrev pub spaced : List (List ℕ) → List ℕ
spaced ws = flat_map (λ w. 32 ∷ w) ws

tail_same : (x y : ℕ) (xs ys : List ℕ) → x ∷ xs ≡ y ∷ ys → xs ≡ ys
tail_same x y xs ys e = cc

first_spaced : (c : ℕ) (cs : List ℕ) (ws : List (List ℕ)) → spaced ws ≡ 32 ∷ cs → spaced (on_first c ws) ≡ 32 ∷ c ∷ cs
first_spaced c cs [] h = cc
first_spaced c cs (w ∷ ws) h = ap (λ xs. 32 ∷ c ∷ xs) (tail_same 32 32 (w ++ spaced ws) cs h)

pub words_spaced : (text : List ℕ) → spaced (words_in text) ≡ 32 ∷ text
words_spaced [] = refl
words_spaced (c ∷ cs) = from (c == 32) refl (words_spaced cs)
  where
    from : (t : Bool) → (c == 32) ≡ t → spaced (words_in cs) ≡ 32 ∷ cs → spaced (cond t ([] ∷ words_in cs) (on_first c (words_in cs))) ≡ 32 ∷ c ∷ cs
    from true e h = ap (λ xs. 32 ∷ xs) h ∙ ap (λ x. 32 ∷ x ∷ cs) (sym (equal c 32 e))
    from false e h = first_spaced c cs (words_in cs) h

pub words_join : (w rest : List ℕ) → Lacks 32 w → words_in (w ++ 32 ∷ rest) ≡ w ∷ words_in rest
words_join [] rest l = refl
words_join (c ∷ cs) rest l = ap (λ t. cond t ([] ∷ words_in (cs ++ 32 ∷ rest)) (on_first c (words_in (cs ++ 32 ∷ rest)))) l.0 ∙ ap (on_first c) (words_join cs rest l.1)

pub words_one : (w : List ℕ) → Lacks 32 w → words_in w ≡ w ∷ []
words_one [] l = refl
words_one (c ∷ cs) l = ap (λ t. cond t ([] ∷ words_in cs) (on_first c (words_in cs))) l.0 ∙ ap (on_first c) (words_one cs l.1)

-- ---- combinations

source_sound : (word : List ℕ) (r : Ref) → source_of word ≡ Some r → (word ≡ ref_text r) × (is_ref r ≡ true)
source_sound [] r h = cc
source_sound (b ∷ bs) r h = first (b == 108) refl h
  where
    second : (t : Bool) → (b == 117) ≡ t → cond t (option_map High (variable_of bs)) (option_map Known (index_of (b ∷ bs))) ≡ Some r → (b ∷ bs ≡ ref_text r) × (is_ref r ≡ true)
    second true e h =
        let p = map_some (variable_of bs) High r h in
        let q = variable_sound bs p.0 p.1 in
        subst (λ x. (b ∷ bs ≡ ref_text x) × (is_ref x ≡ true)) p.2 (ap₂ (λ x xs. x ∷ xs) (equal b 117 e) q.0, q.1)
    second false e h =
        let p = map_some (index_of (b ∷ bs)) Known r h in
        subst (λ x. (b ∷ bs ≡ ref_text x) × (is_ref x ≡ true)) p.2 (index_sound (b ∷ bs) p.0 p.1)

    first : (t : Bool) → (b == 108) ≡ t → cond t (option_map Low (variable_of bs)) (cond (b == 117) (option_map High (variable_of bs)) (option_map Known (index_of (b ∷ bs)))) ≡ Some r → (b ∷ bs ≡ ref_text r) × (is_ref r ≡ true)
    first true e h =
        let p = map_some (variable_of bs) Low r h in
        let q = variable_sound bs p.0 p.1 in
        subst (λ x. (b ∷ bs ≡ ref_text x) × (is_ref x ≡ true)) p.2 (ap₂ (λ x xs. x ∷ xs) (equal b 108 e) q.0, q.1)
    first false e h = second (b == 117) refl h

pub head_same : (x y : ℕ) (xs ys : List ℕ) → x ∷ xs ≡ y ∷ ys → x ≡ y
head_same x y xs ys e = cc

source_complete : (r : Ref) → is_ref r ≡ true → source_of (ref_text r) ≡ Some r
source_complete (Low v) h = ap (option_map Low) (variable_complete v h)
source_complete (High v) h = ap (option_map High) (variable_complete v h)
source_complete (Known i) h =
    let le = (number_parts i h).1 in
    let d = decimal_begins i (omega (arith, le)) in
    from (decimal i) (index_complete i h) d.0 d.1 d.2 d.3 d.4
  where
    from : (ds : List ℕ) → index_of ds ≡ Some i → (b : ℕ) (bs : List ℕ) → ds ≡ b ∷ bs → 48 ≤ b → b ≤ 57 → source_of ds ≡ Some (Known i)
    from [] at b bs is lo hi = cc
    from (x ∷ xs) at b bs is lo hi =
        let one : x ≡ b = head_same x b xs bs is in
        let low : x ≢ 108 = λ e. omega (arith, e, one, hi) in
        let high : x ≢ 117 = λ e. omega (arith, e, one, hi) in
        ap (λ t. cond t (option_map Low (variable_of xs)) (cond (x == 117) (option_map High (variable_of xs)) (option_map Known (index_of (x ∷ xs))))) (apart x 108 low)
        ∙ ap (λ t. cond t (option_map High (variable_of xs)) (option_map Known (index_of (x ∷ xs)))) (apart x 117 high)
        ∙ ap (option_map Known) at

abbrev pub GoodTerm : ℕ × Ref → Bool
GoodTerm t = is_factor t.0 && is_ref t.1

term_sound : (word : List ℕ) (t : ℕ × Ref) → term_of word ≡ Some t → (word ≡ term_text t) × (GoodTerm t ≡ true)
term_sound word t h =
    let p = and_some (factor_of (before 42 word)) (λ m. and_then (past 42 word) (λ rest. option_map (λ r. (m, r)) (source_of rest))) t h in
    let q = and_some (past 42 word) (λ rest. option_map (λ r. (p.0, r)) (source_of rest)) t p.2 in
    let r = map_some (source_of q.0) (λ x. (p.0, x)) t q.2 in
    let f = factor_sound (before 42 word) p.0 p.1 in
    let s = source_sound q.0 r.0 r.1 in
    subst (λ y. (word ≡ term_text y) × (GoodTerm y ≡ true)) r.2 (split_text 42 word q.0 q.1 ∙ ap₂ (λ x y. x ++ 42 ∷ y) f.0 s.0, both_true _ _ f.1 s.1)

pub factor_small : (m : ℕ) → is_factor m ≡ true → m < 10 ^ 64
factor_small m h = let le = le_from m 9223372036854775807 h in omega (arith, le)

pub variable_small : (v : ℕ) → is_variable v ≡ true → v < 10 ^ 64
variable_small v h = let le = le_from v 999999999 h in omega (arith, le)

term_complete : (t : ℕ × Ref) → GoodTerm t ≡ true → term_of (term_text t) ≡ Some t
term_complete t h =
    let p = and_parts (is_factor t.0) (is_ref t.1) h in
    let c = cut_here 42 (decimal t.0) (ref_text t.1) (lacks_decimal 42 t.0 (omega arith) (factor_small t.0 p.0)) in
    ap (λ w. and_then (factor_of w) (λ m. and_then (past 42 (term_text t)) (λ rest. option_map (λ r. (m, r)) (source_of rest)))) c.0
    ∙ ap (λ o. and_then o (λ m. and_then (past 42 (term_text t)) (λ rest. option_map (λ r. (m, r)) (source_of rest)))) (factor_complete t.0 p.0)
    ∙ ap (λ o. and_then o (λ rest. option_map (λ r. (t.0, r)) (source_of rest))) c.1
    ∙ ap (option_map (λ r. (t.0, r))) (source_complete t.1 p.1)

lacks_ref : (r : Ref) → is_ref r ≡ true → Lacks 32 (ref_text r)
lacks_ref (Known i) h = let le = (number_parts i h).1 in lacks_decimal 32 i (omega arith) (omega (arith, le))
lacks_ref (Low v) h = (refl, lacks_decimal 32 v (omega arith) (variable_small v h))
lacks_ref (High v) h = (refl, lacks_decimal 32 v (omega arith) (variable_small v h))

lacks_term : (t : ℕ × Ref) → GoodTerm t ≡ true → Lacks 32 (term_text t)
lacks_term t h =
    let p = and_parts (is_factor t.0) (is_ref t.1) h in
    lacks_both 32 (decimal t.0) (42 ∷ ref_text t.1) (lacks_decimal 32 t.0 (omega arith) (factor_small t.0 p.0)) (refl, lacks_ref t.1 p.1)

terms_sound : (ws : List (List ℕ)) (ts : Combination) → terms_of ws ≡ Some ts → (spaced ws ≡ combination_text ts) × (list_all GoodTerm ts ≡ true)
terms_sound [] ts h = subst (λ x. ([] ≡ combination_text x) × (list_all GoodTerm x ≡ true)) (some_same [] ts h) (refl, refl)
terms_sound (w ∷ ws) ts h =
    let p = and_some (term_of w) (λ t. option_map (λ us. t ∷ us) (terms_of ws)) ts h in
    let q = map_some (terms_of ws) (λ us. p.0 ∷ us) ts p.2 in
    let a = term_sound w p.0 p.1 in
    let b = terms_sound ws q.0 q.1 in
    subst (λ x. (spaced (w ∷ ws) ≡ combination_text x) × (list_all GoodTerm x ≡ true)) q.2 (ap₂ (λ x y. (32 ∷ x) ++ y) a.0 b.0, both_true _ _ a.1 b.1)

pub combination_sound : (text : List ℕ) (ts : Combination) → terms_of (words_in text) ≡ Some ts → (32 ∷ text ≡ combination_text ts) × (is_combination ts ≡ true)
combination_sound text ts h =
    let p = terms_sound (words_in text) ts h in
    let e = sym (words_spaced text) ∙ p.0 in
    (e, both_true _ _ (some ts e) p.1)
  where
    some : (us : Combination) → 32 ∷ text ≡ combination_text us → is_some_terms us ≡ true
    some [] e = cc
    some (u ∷ us) e = refl

pub combination_complete : (t : ℕ × Ref) (ts : Combination) → list_all GoodTerm (t ∷ ts) ≡ true → terms_of (words_in (term_text t ++ combination_text ts)) ≡ Some (t ∷ ts)
combination_complete t [] h =
    let g = (and_parts (GoodTerm t) (list_all GoodTerm []) h).0 in
    ap (λ w. terms_of (words_in w)) (none_past (term_text t)) ∙ ap terms_of (words_one (term_text t) (lacks_term t g))
    ∙ ap (λ o. and_then o (λ x. option_map (λ us. x ∷ us) (terms_of []))) (term_complete t g)
combination_complete t (u ∷ us) h =
    let g = and_parts (GoodTerm t) (list_all GoodTerm (u ∷ us)) h in
    let rest = term_text u ++ combination_text us in
    ap terms_of (words_join (term_text t) rest (lacks_term t g.0))
    ∙ ap (λ o. and_then o (λ x. option_map (λ us. x ∷ us) (terms_of (words_in rest)))) (term_complete t g.0)
    ∙ ap (option_map (λ us. t ∷ us)) (combination_complete u us g.1)
