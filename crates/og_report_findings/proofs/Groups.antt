-- Groups by cause, one item after another.
use Rattle.std.proofs.Common.{◌≡◌, ℕ, zero, suc, ◌+◌, ◌<◌, ◌≤◌, List, [], ◌∷◌, ◌++◌, length, Bool, true, false, true≢false, cond, Option, Some, None, refl, sym, ap, ◌∙◌, arith}
use Rattle.std.specs.Cmp.Lexicographic.{bytes_decides}
use Rattle.std.specs.Str.{bytes_eq}
use Rattle.std.proofs.lemmas.Option.{none-some, same_Some}
use Rattle.og_cert_read.specs.Firsts.{or_this}
use Rattle.og_report_text.specs.Origins.{Rows}
use Rattle.og_report_prove.specs.Together.{has_key}
use Rattle.og_report_findings.specs.Causes.{Item, cause_of, is_of_cause, joined, with_item, place_from, pushed_at}

module _ (names : List (List ℕ)) (source : List ℕ) (rows : Rows) where
  -- where a cause has begun no group
  pub begun : (text : List ℕ) (i : Item) (n : ℕ) (gs : List (List Item)) → place_from names source rows n text gs ≡ None → joined names source rows text i gs ≡ gs ++ (i ∷ []) ∷ []
  begun text i n [] none = refl
  begun text i n (g ∷ gs) none = from (is_of_cause names source rows text g) none (λ e. begun text i (n + 1) gs e)
    where
      from : (b : Bool) → cond b (Some n) (place_from names source rows (n + 1) text gs) ≡ None → (place_from names source rows (n + 1) text gs ≡ None → joined names source rows text i gs ≡ gs ++ (i ∷ []) ∷ [])
          → cond b ((g ++ i ∷ []) ∷ gs) (g ∷ joined names source rows text i gs) ≡ g ∷ (gs ++ (i ∷ []) ∷ [])
      from true e others = absurd (none-some n (sym e))
      from false e others = ap (λ xs. g ∷ xs) (others e)

  at_least : (text : List ℕ) (n m : ℕ) (gs : List (List Item)) → place_from names source rows n text gs ≡ Some m → n ≤ m
  at_least text n m [] is = absurd (none-some m is)
  at_least text n m (g ∷ gs) is = from (is_of_cause names source rows text g) is (λ e. at_least text (n + 1) m gs e)
    where
      from : (b : Bool) → cond b (Some n) (place_from names source rows (n + 1) text gs) ≡ Some m → (place_from names source rows (n + 1) text gs ≡ Some m → n + 1 ≤ m) → n ≤ m
      from true e others = let h = same_Some n m e in omega (arith, h)
      from false e others = let h = others e in omega (arith, h)

  pub within : (text : List ℕ) (n k : ℕ) (gs : List (List Item)) → place_from names source rows n text gs ≡ Some (n + k) → k < length gs
  within text n k [] is = absurd (none-some (n + k) is)
  within text n k (g ∷ gs) is = from (is_of_cause names source rows text g) k is (λ j e. within text (n + 1) j gs e)
    where
      from : (b : Bool) (k : ℕ) → cond b (Some n) (place_from names source rows (n + 1) text gs) ≡ Some (n + k)
          → ((j : ℕ) → place_from names source rows (n + 1) text gs ≡ Some ((n + 1) + j) → j < length gs) → k < length (g ∷ gs)
      from b zero e others = omega arith
      from true (suc k) e others = absurd (let h = same_Some n (n + suc k) e in omega (arith, h))
      from false (suc k) e others =
          let same : n + suc k ≡ (n + 1) + k = omega arith in
          let h = others k (e ∙ ap (λ (m : ℕ). Some m) same) in omega (arith, h)

  -- where it has begun the group with this number
  pub pushed : (text : List ℕ) (i : Item) (n k : ℕ) (gs : List (List Item)) → place_from names source rows n text gs ≡ Some (n + k) → joined names source rows text i gs ≡ pushed_at k i gs
  pushed text i n k [] is = absurd (none-some (n + k) is)
  pushed text i n k (g ∷ gs) is = from (is_of_cause names source rows text g) k is (λ j e. pushed text i (n + 1) j gs e) (λ m e. at_least text (n + 1) m gs e)
    where
      from : (b : Bool) (k : ℕ) → cond b (Some n) (place_from names source rows (n + 1) text gs) ≡ Some (n + k)
          → ((j : ℕ) → place_from names source rows (n + 1) text gs ≡ Some ((n + 1) + j) → joined names source rows text i gs ≡ pushed_at j i gs)
          → ((m : ℕ) → place_from names source rows (n + 1) text gs ≡ Some m → n + 1 ≤ m)
          → cond b ((g ++ i ∷ []) ∷ gs) (g ∷ joined names source rows text i gs) ≡ pushed_at k i (g ∷ gs)
      from true zero e others least = refl
      from true (suc k) e others least = absurd (let h = same_Some n (n + suc k) e in omega (arith, h))
      from false zero e others least = absurd (let h = least (n + 0) e in omega (arith, h))
      from false (suc k) e others least =
          let same : n + suc k ≡ (n + 1) + k = omega arith in
          ap (λ xs. g ∷ xs) (others k (e ∙ ap (λ (m : ℕ). Some m) same))

  first_kept : (text u : List ℕ) (i : Item) (g : List Item) → is_of_cause names source rows text g ≡ true → is_of_cause names source rows u (g ++ i ∷ []) ≡ is_of_cause names source rows u g
  first_kept text u i [] is = absurd (true≢false (sym is))
  first_kept text u i (x ∷ g) is = refl

  -- which causes have begun groups stays the same
  pub kept : (text u : List ℕ) (i : Item) (n k : ℕ) (gs : List (List Item)) → place_from names source rows n text gs ≡ Some (n + k) → place_from names source rows n u (pushed_at k i gs) ≡ place_from names source rows n u gs
  kept text u i n k [] is = absurd (none-some (n + k) is)
  kept text u i n k (g ∷ gs) is = from (is_of_cause names source rows text g) refl k is (λ j e. kept text u i (n + 1) j gs e)
    where
      from : (b : Bool) → is_of_cause names source rows text g ≡ b → (k : ℕ) → cond b (Some n) (place_from names source rows (n + 1) text gs) ≡ Some (n + k)
          → ((j : ℕ) → place_from names source rows (n + 1) text gs ≡ Some ((n + 1) + j) → place_from names source rows (n + 1) u (pushed_at j i gs) ≡ place_from names source rows (n + 1) u gs)
          → place_from names source rows n u (pushed_at k i (g ∷ gs)) ≡ place_from names source rows n u (g ∷ gs)
      from true e zero is others = ap (λ c. cond c (Some n) (place_from names source rows (n + 1) u gs)) (first_kept text u i g e)
      from true e (suc k) is others = absurd (let h = same_Some n (n + suc k) is in omega (arith, h))
      from false e zero is others = absurd (let h = at_least text (n + 1) (n + 0) gs is in omega (arith, h))
      from false e (suc k) is others =
          let same : n + suc k ≡ (n + 1) + k = omega arith in
          ap (λ c. cond (is_of_cause names source rows u g) (Some n) c) (others k (is ∙ ap (λ (m : ℕ). Some m) same))

  -- one group more
  pub one_more : (text u : List ℕ) (i : Item) (n : ℕ) (gs : List (List Item)) → cause_of names source rows i.entry.diagnosis ≡ Some text
      → place_from names source rows n u (gs ++ (i ∷ []) ∷ []) ≡ or_this (place_from names source rows n u gs) u text (n + length gs)
  one_more text u i n [] is =
      let same : n ≡ n + 0 = omega arith in
      ap (λ c. cond (has_key u c) (Some n) None) is ∙ ap (λ (m : ℕ). cond (bytes_eq u text) (Some m) None) same
  one_more text u i n (g ∷ gs) is = from (is_of_cause names source rows u g) (one_more text u i (n + 1) gs is)
    where
      from : (b : Bool) → place_from names source rows (n + 1) u (gs ++ (i ∷ []) ∷ []) ≡ or_this (place_from names source rows (n + 1) u gs) u text ((n + 1) + length gs) → cond b (Some n) (place_from names source rows (n + 1) u (gs ++ (i ∷ []) ∷ []))
          ≡ or_this (cond b (Some n) (place_from names source rows (n + 1) u gs)) u text (n + length (g ∷ gs))
      from true others = refl
      from false others =
          let same : (n + 1) + length gs ≡ n + length (g ∷ gs) = omega arith in
          others ∙ ap (λ (m : ℕ). or_this (place_from names source rows (n + 1) u gs) u text m) same

  -- one without a cause
  pub one_alone : (u : List ℕ) (i : Item) (n : ℕ) (gs : List (List Item)) → cause_of names source rows i.entry.diagnosis ≡ None
      → place_from names source rows n u (gs ++ (i ∷ []) ∷ []) ≡ place_from names source rows n u gs
  one_alone u i n [] is = ap (λ c. cond (has_key u c) (Some n) None) is
  one_alone u i n (g ∷ gs) is = ap (λ c. cond (is_of_cause names source rows u g) (Some n) c) (one_alone u i (n + 1) gs is)

  -- ---- what is known of causes after one item more

  unchanged : (f : List ℕ → Option ℕ) (text t : List ℕ) (k n : ℕ) → f text ≡ Some k → or_this (f t) t text n ≡ f t
  unchanged f text t k n is = from (f t) refl (bytes_eq t text) refl
    where
      from : (o : Option ℕ) → f t ≡ o → (b : Bool) → bytes_eq t text ≡ b → or_this o t text n ≡ o
      from (Some j) e b h = refl
      from None e true h = absurd (none-some k (sym e ∙ ap f ((bytes_decides t text).0 h) ∙ is))
      from None e false h = ap (λ (b : Bool). cond b (Some n) None) h

  -- an item with a cause that has begun a group
  pub joins : (text : List ℕ) (cause : Option (List ℕ)) (i : Item) (k : ℕ) (gs : List (List Item)) → cause ≡ Some text → place_from names source rows 0 text gs ≡ Some k → pushed_at k i gs ≡ with_item names source rows cause i gs
  joins text cause i k gs is at =
      let same : k ≡ 0 + k = omega arith in
      sym (pushed text i 0 k gs (at ∙ ap (λ (m : ℕ). Some m) same)) ∙ ap (λ (c : Option (List ℕ)). with_item names source rows c i gs) (sym is)

  pub joins_known : (f g : List ℕ → Option ℕ) (text : List ℕ) (i : Item) (k n : ℕ) (gs hs : List (List Item))
      → ((t : List ℕ) → f t ≡ place_from names source rows 0 t gs) → ((t : List ℕ) → g t ≡ or_this (f t) t text n) → f text ≡ Some k → hs ≡ pushed_at k i gs
      → (t : List ℕ) → g t ≡ place_from names source rows 0 t hs
  joins_known f g text i k n gs hs known next is at t =
      let same : k ≡ 0 + k = omega arith in
      next t ∙ unchanged f text t k n is ∙ known t ∙ sym (kept text t i 0 k gs (sym (known text) ∙ is ∙ ap (λ (m : ℕ). Some m) same))
      ∙ ap (place_from names source rows 0 t) (sym at)

  -- an item with one that has not
  pub begins : (text : List ℕ) (cause : Option (List ℕ)) (i : Item) (gs : List (List Item)) → cause ≡ Some text → place_from names source rows 0 text gs ≡ None → gs ++ (i ∷ []) ∷ [] ≡ with_item names source rows cause i gs
  begins text cause i gs is none = sym (begun text i 0 gs none) ∙ ap (λ (c : Option (List ℕ)). with_item names source rows c i gs) (sym is)

  pub begins_known : (f g : List ℕ → Option ℕ) (text : List ℕ) (i : Item) (n : ℕ) (gs hs : List (List Item))
      → ((t : List ℕ) → f t ≡ place_from names source rows 0 t gs) → ((t : List ℕ) → g t ≡ or_this (f t) t text n) → cause_of names source rows i.entry.diagnosis ≡ Some text → n ≡ length gs → hs ≡ gs ++ (i ∷ []) ∷ []
      → (t : List ℕ) → g t ≡ place_from names source rows 0 t hs
  begins_known f g text i n gs hs known next is count at t =
      let same : n ≡ 0 + length gs = omega (arith, count) in
      next t ∙ ap (λ (o : Option ℕ). or_this o t text n) (known t) ∙ ap (λ (m : ℕ). or_this (place_from names source rows 0 t gs) t text m) same
      ∙ sym (one_more text t i 0 gs is) ∙ ap (place_from names source rows 0 t) (sym at)

  -- one without a cause
  pub alone_known : (f : List ℕ → Option ℕ) (i : Item) (gs hs : List (List Item)) → ((t : List ℕ) → f t ≡ place_from names source rows 0 t gs) → cause_of names source rows i.entry.diagnosis ≡ None → hs ≡ gs ++ (i ∷ []) ∷ []
      → (t : List ℕ) → f t ≡ place_from names source rows 0 t hs
  alone_known f i gs hs known none at t = known t ∙ sym (one_alone t i 0 gs none) ∙ ap (place_from names source rows 0 t) (sym at)
