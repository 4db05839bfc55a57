-- What a whole line says.
use Rattle.std.proofs.Common.{◌≡◌, ℕ, suc, ◌+◌, ◌^◌, ◌<◌, List, [], ◌∷◌, ◌++◌, refl, ap, ap₂, sym, ◌∙◌, arith, Bool, ◌&&◌, true, false, cond, Option, Some, None, option_map, ℤ, pos, negsuc, subst}
use Rattle.std.specs.Prelude.{nat_le, ◌==◌, not, codes}
use Rattle.std.specs.Fmt.{decimal, signed_decimal}
use Rattle.std.specs.List.{list_all}
use Rattle.std.specs.Ordering.{int_eq}
use Rattle.og_linear.specs.Linear.{Terms, FormValue, form_value}
use Rattle.og_linear.specs.Bounded.{fits_i128, fits_terms, fits_form}
use Rattle.og_cert_text.specs.Lines.{Line, ForCondition, SameLine, SumLine, CutLine, BranchLine, SplitLine, CloseLine, part_text, parts_text, line_text, is_number, is_variable, is_factor, rises_from, is_form, is_line}
use Rattle.og_cert_text.proofs.Forms.{both_true, and_parts}
use Rattle.og_cert_read.specs.Text.{BytesSay}
use Rattle.og_cert_read.specs.Words.{and_then, before, past, after, words_in, words_of, number_of, index_of, variable_of, factor_of, whole_of, terms_of, named_variable, nonzero, part_of, parts_of, form_of, index_and_rest, cut_of, split_of, or_else, line_of}
use Rattle.og_cert_read.proofs.Numbers.{and_some, map_some, some_same, cond_some, cond_none, apart, equal, none_past, Lacks, lacks_both, lacks_decimal, number_parts, index_sound, index_complete, variable_sound, variable_complete, factor_sound, factor_complete, count_sound, count_complete, whole_sound, whole_complete, lt_from}
use Rattle.og_cert_read.proofs.Says.{split_text, no_split, cut_here, cut_nowhere, spaced, words_spaced, words_join, words_one, combination_sound, combination_complete, variable_small}

-- ---- the variables of a form

pub record GoodPart (t : ℕ × ℤ) : Type 0 where
  pub fits : fits_i128 t.1 ≡ true
  pub some : not (int_eq t.1 (pos 0)) ≡ true
  pub small : is_variable t.0 ≡ true

named_sound : (word : List ℕ) (v : ℕ) → named_variable word ≡ Some v → (word ≡ 118 ∷ decimal v) × (is_variable v ≡ true)
named_sound [] v h = cc
named_sound (b ∷ bs) v h =
    let p = cond_some (b == 118) (variable_of bs) v h in
    let q = variable_sound bs v p.1 in
    (ap₂ (λ x xs. x ∷ xs) (equal b 118 p.0) q.0, q.1)

not_false : (b : Bool) → b ≡ false → not b ≡ true
not_false true h = cc
not_false false h = refl

pub false_from : (b : Bool) → not b ≡ true → b ≡ false
false_from true h = cc
false_from false h = refl

part_sound : (word : List ℕ) (t : ℕ × ℤ) → part_of word ≡ Some t → (word ≡ part_text t) × GoodPart t
part_sound word t h =
    let p = and_some (whole_of (before 42 word)) (λ a. and_then (and_then (past 42 word) named_variable) (λ v. nonzero v a)) t h in
    let q = and_some (and_then (past 42 word) named_variable) (λ v. nonzero v p.0) t p.2 in
    let r = and_some (past 42 word) named_variable q.0 q.1 in
    let z = cond_none (int_eq p.0 (pos 0)) (Some (q.0, p.0)) t q.2 in
    let w = whole_sound (before 42 word) p.0 p.1 in
    let n = named_sound r.0 q.0 r.2 in
    subst (λ y. (word ≡ part_text y) × GoodPart y) (some_same (q.0, p.0) t z.1)
    (split_text 42 word r.0 r.1 ∙ ap₂ (λ x y. x ++ 42 ∷ y) w.0 n.0, record { fits = w.1; some = not_false (int_eq p.0 (pos 0)) z.0; small = n.1 })

pub lacks_whole : (b : ℕ) (z : ℤ) → b < 45 → fits_i128 z ≡ true → Lacks b (signed_decimal z)
lacks_whole b (pos n) lt h = let l = lt_from n (2 ^ 127) h in lacks_decimal b n (omega (arith, lt)) (omega (arith, l))
lacks_whole b (negsuc n) lt h =
    let l = lt_from n (2 ^ 127) h in
    (apart 45 b (λ e. omega (arith, e, lt)), lacks_decimal b (suc n) (omega (arith, lt)) (omega (arith, l)))

part_complete : (t : ℕ × ℤ) → GoodPart t → part_of (part_text t) ≡ Some t
part_complete t g =
    let c = cut_here 42 (signed_decimal t.1) (118 ∷ decimal t.0) (lacks_whole 42 t.1 (omega arith) g.fits) in
    ap (λ w. and_then (whole_of w) (λ a. and_then (and_then (past 42 (part_text t)) named_variable) (λ v. nonzero v a))) c.0
    ∙ ap (λ o. and_then o (λ a. and_then (and_then (past 42 (part_text t)) named_variable) (λ v. nonzero v a))) (whole_complete t.1 g.fits)
    ∙ ap (λ o. and_then (and_then o named_variable) (λ v. nonzero v t.1)) c.1
    ∙ ap (λ o. and_then o (λ v. nonzero v t.1)) (variable_complete t.0 g.small)
    ∙ ap (λ b. cond b None (Some t)) (false_from (int_eq t.1 (pos 0)) g.some)

lacks_part : (t : ℕ × ℤ) → GoodPart t → Lacks 32 (part_text t)
lacks_part t g =
    lacks_both 32 (signed_decimal t.1) (42 ∷ 118 ∷ decimal t.0) (lacks_whole 32 t.1 (omega arith) g.fits) (refl, (refl, lacks_decimal 32 t.0 (omega arith) (variable_small t.0 g.small)))

pub record GoodParts (low : ℕ) (ts : Terms) : Type 0 where
  pub fit : fits_terms ts ≡ true
  pub rise : rises_from low ts ≡ true
  pub small : list_all (λ t. is_variable t.0) ts ≡ true

pub parts_sound : (low : ℕ) (ws : List (List ℕ)) (ts : Terms) → parts_of low ws ≡ Some ts → (spaced ws ≡ parts_text ts) × GoodParts low ts
parts_sound low [] ts h = subst (λ x. ([] ≡ parts_text x) × GoodParts low x) (some_same [] ts h) (refl, record { fit = refl; rise = refl; small = refl })
parts_sound low (w ∷ ws) ts h =
    let p = and_some (part_of w) (λ t. cond (nat_le low t.0) (option_map (λ us. t ∷ us) (parts_of (t.0 + 1) ws)) None) ts h in
    let k = cond_some (nat_le low p.0.0) (option_map (λ us. p.0 ∷ us) (parts_of (p.0.0 + 1) ws)) ts p.2 in
    let q = map_some (parts_of (p.0.0 + 1) ws) (λ us. p.0 ∷ us) ts k.1 in
    let a = part_sound w p.0 p.1 in
    let b = parts_sound (p.0.0 + 1) ws q.0 q.1 in
    subst (λ x. (spaced (w ∷ ws) ≡ parts_text x) × GoodParts low x) q.2 (
      ap₂ (λ x y. (32 ∷ x) ++ y) a.0 b.0,
      record {
        fit = both_true _ _ a.1.fits b.1.fit;
        rise = both_true _ _ (both_true _ _ k.0 a.1.some) b.1.rise;
        small = both_true _ _ a.1.small b.1.small;
      },
    )

pub part_good : (low : ℕ) (t : ℕ × ℤ) (ts : Terms) → GoodParts low (t ∷ ts) → (GoodPart t) × (nat_le low t.0 ≡ true) × GoodParts (t.0 + 1) ts
part_good low t ts g =
    let f = and_parts (fits_i128 t.1) (fits_terms ts) g.fit in
    let r = and_parts (nat_le low t.0 && not (int_eq t.1 (pos 0))) (rises_from (t.0 + 1) ts) g.rise in
    let n = and_parts (nat_le low t.0) (not (int_eq t.1 (pos 0))) r.0 in
    let s = and_parts (is_variable t.0) (list_all (λ u. is_variable u.0) ts) g.small in
    (record { fits = f.0; some = n.1; small = s.0 }, n.0, record { fit = f.1; rise = r.1; small = s.1 })

parts_complete : (low : ℕ) (t : ℕ × ℤ) (ts : Terms) → GoodParts low (t ∷ ts) → parts_of low (words_in (part_text t ++ parts_text ts)) ≡ Some (t ∷ ts)
parts_complete low t [] g =
    let p = part_good low t [] g in
    ap (λ w. parts_of low (words_in w)) (none_past (part_text t)) ∙ ap (parts_of low) (words_one (part_text t) (lacks_part t p.0))
    ∙ ap (λ o. and_then o (λ x. cond (nat_le low x.0) (option_map (λ us. x ∷ us) (parts_of (x.0 + 1) [])) None)) (part_complete t p.0)
    ∙ ap (λ b. cond b (Some (t ∷ [])) None) p.1
parts_complete low t (u ∷ us) g =
    let p = part_good low t (u ∷ us) g in
    let rest = part_text u ++ parts_text us in
    ap (parts_of low) (words_join (part_text t) rest (lacks_part t p.0))
    ∙ ap (λ o. and_then o (λ x. cond (nat_le low x.0) (option_map (λ vs. x ∷ vs) (parts_of (x.0 + 1) (words_in rest))) None)) (part_complete t p.0)
    ∙ ap (λ b. cond b (option_map (λ vs. t ∷ vs) (parts_of (t.0 + 1) (words_in rest))) None) p.1
    ∙ ap (option_map (λ vs. t ∷ vs)) (parts_complete (t.0 + 1) u us p.2)

-- ---- forms

pub form_sound : (text : List ℕ) (f : FormValue) → form_of text ≡ Some f → (text ≡ signed_decimal f.constant ++ parts_text f.terms) × (is_form f ≡ true)
form_sound text f h =
    let p = and_some (whole_of (before 32 text)) (λ c. option_map (λ ts. form_value ts c) (parts_of 0 (words_of (past 32 text)))) f h in
    let q = map_some (parts_of 0 (words_of (past 32 text))) (λ ts. form_value ts p.0) f p.2 in
    let w = whole_sound (before 32 text) p.0 p.1 in
    let s = parts_sound 0 (words_of (past 32 text)) q.0 q.1 in
    subst (λ y. (text ≡ signed_decimal y.constant ++ parts_text y.terms) × (is_form y ≡ true)) q.2
    (from (past 32 text) refl ∙ ap₂ (λ x y. x ++ y) w.0 s.0, both_true _ _ (both_true _ _ (both_true _ _ s.1.fit w.1) s.1.rise) s.1.small)
  where
    from : (o : Option (List ℕ)) → past 32 text ≡ o → text ≡ before 32 text ++ spaced (words_of o)
    from None e = no_split 32 text e ∙ sym (none_past (before 32 text))
    from (Some rest) e = split_text 32 text rest e ∙ ap (λ x. before 32 text ++ x) (sym (words_spaced rest))

pub form_good : (f : FormValue) → is_form f ≡ true → (fits_i128 f.constant ≡ true) × GoodParts 0 f.terms
form_good f h =
    let a = and_parts (fits_form f && rises_from 0 f.terms) (list_all (λ t. is_variable t.0) f.terms) h in
    let b = and_parts (fits_form f) (rises_from 0 f.terms) a.0 in
    let c = and_parts (fits_terms f.terms) (fits_i128 f.constant) b.0 in
    (c.1, record { fit = c.0; rise = b.1; small = a.1 })

pub form_complete : (f : FormValue) → is_form f ≡ true → form_of (signed_decimal f.constant ++ parts_text f.terms) ≡ Some f
form_complete f h = let g = form_good f h in from f.terms f.constant g.0 g.1
  where
    from : (ts : Terms) (c : ℤ) → fits_i128 c ≡ true → GoodParts 0 ts → form_of (signed_decimal c ++ parts_text ts) ≡ Some (form_value ts c)
    from [] c fits g =
        let k = cut_nowhere 32 (signed_decimal c) (lacks_whole 32 c (omega arith) fits) in
        ap form_of (none_past (signed_decimal c))
        ∙ ap₂ (λ x y. and_then (whole_of x) (λ d. option_map (λ us. form_value us d) (parts_of 0 (words_of y)))) k.0 k.1
        ∙ ap (λ o. and_then o (λ d. option_map (λ us. form_value us d) (parts_of 0 []))) (whole_complete c fits)
    from (t ∷ ts) c fits g =
        let rest = part_text t ++ parts_text ts in
        let k = cut_here 32 (signed_decimal c) rest (lacks_whole 32 c (omega arith) fits) in
        ap₂ (λ x y. and_then (whole_of x) (λ d. option_map (λ us. form_value us d) (parts_of 0 (words_of y)))) k.0 k.1
        ∙ ap (λ o. and_then o (λ d. option_map (λ us. form_value us d) (parts_of 0 (words_in rest)))) (whole_complete c fits)
        ∙ ap (option_map (λ us. form_value us c)) (parts_complete 0 t ts g)

-- ---- two numbers

pair_sound : (text : List ℕ) (i : ℕ) (rest : List ℕ) → index_and_rest text ≡ Some (i, rest) → (text ≡ decimal i ++ 32 ∷ rest) × (is_number i ≡ true)
pair_sound text i rest h =
    let p = and_some (index_of (before 32 text)) (λ j. and_then (past 32 text) (λ r. Some (j, r))) (i, rest) h in
    let q = and_some (past 32 text) (λ r. Some (p.0, r)) (i, rest) p.2 in
    let e : ◌≡◌ {A = ℕ × List ℕ} (p.0, q.0) (i, rest) = some_same (p.0, q.0) (i, rest) q.2 in
    let s = index_sound (before 32 text) p.0 p.1 in
    subst (λ (y : ℕ × List ℕ). (text ≡ decimal y.0 ++ 32 ∷ y.1) × (is_number y.0 ≡ true)) e (split_text 32 text q.0 q.1 ∙ ap (λ x. x ++ 32 ∷ q.0) s.0, s.1)

pair_complete : (i : ℕ) (rest : List ℕ) → is_number i ≡ true → index_and_rest (decimal i ++ 32 ∷ rest) ≡ Some (i, rest)
pair_complete i rest h =
    let le = (number_parts i h).1 in
    let c = cut_here 32 (decimal i) rest (lacks_decimal 32 i (omega arith) (omega (arith, le))) in
    ap₂ (λ x y. and_then (index_of x) (λ j. and_then y (λ r. Some (j, r)))) c.0 c.1
    ∙ ap (λ o. and_then o (λ j. Some (j, rest))) (index_complete i h)

-- ---- lines

abbrev Said : List ℕ → Line → Type 0
Said text line = (text ≡ line_text line) × (is_line line ≡ true)

pub after_sound : (ps text rest : List ℕ) → after ps text ≡ Some rest → text ≡ ps ++ rest
after_sound [] text rest h = some_same text rest h
after_sound (p ∷ ps) [] rest h = cc
after_sound (p ∷ ps) (c ∷ cs) rest h =
    let k = cond_some (c == p) (after ps cs) rest h in
    ap₂ (λ x xs. x ∷ xs) (equal c p k.0) (after_sound ps cs rest k.1)

or_sound : (ps text : List ℕ) (read : List ℕ → Option Line) (other : Option Line) (line : Line) → or_else (after ps text) read other ≡ Some line
    → ((rest : List ℕ) → read rest ≡ Some line → text ≡ ps ++ rest → Said text line) → (other ≡ Some line → Said text line) → Said text line
or_sound ps text read other line h begins others = from (after ps text) refl h
  where
    from : (o : Option (List ℕ)) → after ps text ≡ o → or_else o read other ≡ Some line → Said text line
    from None e k = others k
    from (Some rest) e k = begins rest k (after_sound ps text rest e)

cut_sound : (rest : List ℕ) (line : Line) → cut_of rest ≡ Some line → Said (codes "cut " ++ rest) line
cut_sound rest line h =
    let p = and_some (index_and_rest rest) (λ q. option_map (λ d. CutLine q.0 d) (factor_of q.1)) line h in
    let q = map_some (factor_of p.0.1) (λ d. CutLine p.0.0 d) line p.2 in
    let a = pair_sound rest p.0.0 p.0.1 p.1 in
    let b = factor_sound p.0.1 q.0 q.1 in
    subst (λ l. Said (codes "cut " ++ rest) l) q.2 (ap (λ x. codes "cut " ++ x) (a.0 ∙ ap (λ x. decimal p.0.0 ++ 32 ∷ x) b.0), both_true _ _ a.1 b.1)

split_sound : (rest : List ℕ) (line : Line) → split_of rest ≡ Some line → Said (codes "split " ++ rest) line
split_sound rest line h =
    let p = and_some (index_and_rest rest) (λ q. option_map (λ k. SplitLine q.0 k) (number_of 10000 q.1)) line h in
    let q = map_some (number_of 10000 p.0.1) (λ k. SplitLine p.0.0 k) line p.2 in
    let a = pair_sound rest p.0.0 p.0.1 p.1 in
    let b = count_sound p.0.1 q.0 q.1 in
    subst (λ l. Said (codes "split " ++ rest) l) q.2 (ap (λ x. codes "split " ++ x) (a.0 ∙ ap (λ x. decimal p.0.0 ++ 32 ∷ x) b.0), both_true _ _ a.1 b.1)

pub line_sound : (text : List ℕ) (line : Line) → line_of text ≡ Some line → Said text line
line_sound text line h =
    or_sound (codes "sum ") text _ _ line h
    (λ rest k e. let p = map_some (terms_of (words_in rest)) SumLine line k in let q = combination_sound rest p.0 p.1 in
    subst (λ l. Said text l) p.2 (e ∙ ap (λ x. codes "sum" ++ x) q.0, q.1))
    (λ h. or_sound (codes "close ") text _ _ line h
    (λ rest k e. let p = map_some (terms_of (words_in rest)) CloseLine line k in let q = combination_sound rest p.0 p.1 in
    subst (λ l. Said text l) p.2 (e ∙ ap (λ x. codes "close" ++ x) q.0, q.1))
    (λ h. or_sound (codes "cut ") text _ _ line h (λ rest k e. subst (λ t. Said t line) (sym e) (cut_sound rest line k))
    (λ h. or_sound (codes "branch ") text _ _ line h
    (λ rest k e. let p = map_some (form_of rest) BranchLine line k in let q = form_sound rest p.0 p.1 in
    subst (λ l. Said text l) p.2 (e ∙ ap (λ x. codes "branch " ++ x) q.0, q.1))
    (λ h. or_sound (codes "split ") text _ _ line h (λ rest k e. subst (λ t. Said t line) (sym e) (split_sound rest line k))
    (λ h. or_sound (codes "cond ") text _ _ line h
    (λ rest k e. let p = map_some (index_of rest) ForCondition line k in let q = index_sound rest p.0 p.1 in
    subst (λ l. Said text l) p.2 (e ∙ ap (λ x. codes "cond " ++ x) q.0, q.1))
    (λ h. or_sound (codes "same ") text _ _ line h
    (λ rest k e. let p = map_some (index_of rest) SameLine line k in let q = index_sound rest p.0 p.1 in
    subst (λ l. Said text l) p.2 (e ∙ ap (λ x. codes "same " ++ x) q.0, q.1))
    (λ h. absurd (nothing h))))))))
  where
    nothing : ◌≡◌ {A = Option Line} None (Some line) → ⊥
    nothing e = cc

pub line_complete : (line : Line) → is_line line ≡ true → line_of (line_text line) ≡ Some line
line_complete (ForCondition n) h = ap (option_map ForCondition) (index_complete n h)
line_complete (SameLine k) h = ap (option_map SameLine) (index_complete k h)
line_complete (SumLine []) h = cc
line_complete (SumLine (t ∷ ts)) h = ap (option_map SumLine) (combination_complete t ts h)
line_complete (CloseLine []) h = cc
line_complete (CloseLine (t ∷ ts)) h = ap (option_map CloseLine) (combination_complete t ts h)
line_complete (CutLine i d) h =
    let p = and_parts (is_number i) (is_factor d) h in
    ap (λ o. and_then o (λ q. option_map (λ d. CutLine q.0 d) (factor_of q.1))) (pair_complete i (decimal d) p.0) ∙ ap (option_map (λ d. CutLine i d)) (factor_complete d p.1)
line_complete (SplitLine i k) h =
    let p = and_parts (is_number i) (nat_le k 10000) h in
    ap (λ o. and_then o (λ q. option_map (λ k. SplitLine q.0 k) (number_of 10000 q.1))) (pair_complete i (decimal k) p.0) ∙ ap (option_map (λ k. SplitLine i k)) (count_complete k p.1)
line_complete (BranchLine f) h = ap (option_map BranchLine) (form_complete f h)

-- bytes stand for the file that is read from them
pub says : (text : List ℕ) (o : Option Line) → o ≡ line_of text → BytesSay text o
says text (Some line) e = line_sound text line (sym e)
says text None e = λ line is good. none line (e ∙ ap line_of is ∙ line_complete line good)
  where
    none : (line : Line) → ◌≡◌ {A = Option Line} None (Some line) → ⊥
    none line e = cc

-- the variables that are read rise, and their coefficients fit
pub parts_good : (ws : List (List ℕ)) (o : Option Terms) (ts : Terms) → o ≡ parts_of 0 ws → o ≡ Some ts → (rises_from 0 ts ≡ true) × (fits_terms ts ≡ true)
parts_good ws o ts e is = let g = (parts_sound 0 ws ts (sym e ∙ is)).1 in (g.rise, g.fit)
