-- A map from texts to numbers.
use Rattle.std.proofs.Common.{◌≡◌, ℕ, List, [], ◌∷◌, ◌++◌, refl, ap, sym, ◌∙◌, Bool, true, false, cond, Option, Some, None, Vec, append_assoc}
use Rattle.std.specs.Global.{Global}
use Rattle.std.specs.Str.{bytes_eq}
use Rattle.std.specs.Ordering.{nat_cmp, is_eq, eq_by_cmp}
use Rattle.std.specs.Cmp.{eq_by_cmp_equiv}
use Rattle.std.specs.Cmp.Lexicographic.{slice_cmp, bytes_decides, nat_list_cmp_total, nat_list_eq_equiv}
use Rattle.std.specs.BTreeMap.{BTreeMap, UpdatesBy, is_at}
use Rattle.std.specs.Map.{lookup, IsKeyTest, AreApart, KeepsOthers}
use Rattle.std.proofs.lemmas.Map.Text.{is_eq-slice_cmp}
use Rattle.og_cert_text.specs.Tree.{Cert}
use Rattle.og_cert_text.specs.Lines.{ForCondition, line_text}
use Rattle.og_cert_text.specs.Files.{Entries}
use Rattle.og_cert_text.specs.Listing.{listed_lines, lines_text}
use Rattle.og_cert_read.specs.Shared.{cert_text, first_with, listed_as, listed_text}
use Rattle.og_cert_read.specs.Firsts.{found, or_this}

abbrev vec_order : Vec ℕ Global → Vec ℕ Global → Rattle.std.specs.declared.cmp.Ordering.Ordering
vec_order x y = slice_cmp nat_cmp x.items y.items

others : (eq : Vec ℕ Global → Vec ℕ Global → Bool) (test : Vec ℕ Global → Bool) (old new : List (Vec ℕ Global × ℕ)) → KeepsOthers eq test old new → (other : Vec ℕ Global → Bool) → IsKeyTest eq other → AreApart test other → lookup other new ≡ lookup other old
unfolding KeepsOthers
others eq test old new h = h

apart_in_order : (bs cs ks : List ℕ) → bytes_eq bs cs ≡ false → is_eq (slice_cmp nat_cmp bs ks) ≡ true → is_eq (slice_cmp nat_cmp cs ks) ≡ false
apart_in_order bs cs ks n y =
    is_eq-slice_cmp cs ks ∙ nat_list_eq_equiv.symm cs ks ∙ sym (nat_list_eq_equiv.congr bs ks cs (sym (is_eq-slice_cmp bs ks) ∙ y)) ∙ n

pub found_other : (key : Vec ℕ Global) (n : ℕ) (old new : BTreeMap (Vec ℕ Global) ℕ) (t : List ℕ) → UpdatesBy vec_order (λ k. slice_cmp nat_cmp key.items k.items) old new (Some n) → bytes_eq key.items t ≡ false → found t new ≡ found t old
found_other key n old new t h apart =
    others _ _ old.entries new.entries h.3 (is_at (λ k. slice_cmp nat_cmp t k.items)) (λ x y. (eq_by_cmp_equiv nat_list_cmp_total).congr t x.items y.items) (λ k. apart_in_order key.items t k.items apart)

pub noted : (key : Vec ℕ Global) (n : ℕ) (old new : BTreeMap (Vec ℕ Global) ℕ) (text : List ℕ) → key.items ≡ text → found text old ≡ None → UpdatesBy vec_order (λ k. slice_cmp nat_cmp key.items k.items) old new (Some n)
    → (t : List ℕ) → found t new ≡ or_this (found t old) t text n
noted key n old new text is none h t = from (bytes_eq key.items t) refl
  where
    from : (b : Bool) → bytes_eq key.items t ≡ b → found t new ≡ or_this (found t old) t text n
    from true e =
        let q : key.items ≡ t = (bytes_decides key.items t).0 e in
        let r : text ≡ t = sym is ∙ q in
        ap (λ u. found u new) (sym q) ∙ h.1 ∙ ap (λ b. cond b (Some n) None) (sym (ap (λ u. bytes_eq u text) (sym r) ∙ nat_list_eq_equiv.refl text)) ∙ ap (λ o. or_this o t text n) (sym (ap (λ u. found u old) (sym r) ∙ none))
    from false e = found_other key n old new t h e ∙ later (found t old)
      where
        later : (o : Option ℕ) → o ≡ or_this o t text n
        later (Some k) = refl
        later None = ap (λ b. cond b (Some n) None) (sym (ap (bytes_eq t) (sym is) ∙ nat_list_eq_equiv.symm t key.items ∙ e))

-- ---- entries

pub again_text : (t0 t1 t2 : List ℕ) (n k : ℕ) (o : Option ℕ) (c : Cert) → t1 ≡ t0 ++ (line_text (ForCondition n) ++ 10 ∷ []) → o ≡ Some k → t2 ≡ t1 ++ listed_text (listed_as (Some k) c)
    → t2 ≡ t0 ++ lines_text (ForCondition n ∷ listed_lines (listed_as o c))
again_text t0 t1 t2 n k o c head is h =
    h ∙ ap (λ t. t ++ listed_text (listed_as (Some k) c)) head ∙ append_assoc t0 (line_text (ForCondition n) ++ 10 ∷ []) (listed_text (listed_as (Some k) c))
    ∙ ap (λ x. t0 ++ lines_text (ForCondition n ∷ listed_lines (listed_as x c))) (sym is)

pub lines_are : (none lines text : List ℕ) → none ≡ [] → lines ≡ none ++ text → lines ≡ text
lines_are none lines text e h = h ∙ ap (λ x. x ++ text) e

pub first_end : (t : List ℕ) (done : Entries) (n : ℕ) (c : Cert) → first_with t (done ++ (n, c) ∷ []) ≡ or_this (first_with t done) t (cert_text c) n
first_end t [] n c = refl
first_end t (e ∷ es) n c = from (bytes_eq t (cert_text e.1)) (first_end t es n c)
  where
    from : (b : Bool) → first_with t (es ++ (n, c) ∷ []) ≡ or_this (first_with t es) t (cert_text c) n → cond b (Some e.0) (first_with t (es ++ (n, c) ∷ [])) ≡ or_this (cond b (Some e.0) (first_with t es)) t (cert_text c) n
    from true h = refl
    from false h = h
