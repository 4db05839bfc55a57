-- The blocks: their heads stand in order, and each of those that are shown is told once.
use Rattle.std.proofs.Common.{◌≡◌, ◌∙◌, ℕ, ◌⊎◌, inl, inr, List, [], ◌∷◌, ◌++◌, Bool, true, false, true≢false, cond, Option, Some, None, map, refl, sym, ap, subst, append_assoc}
use Rattle.std.specs.Prelude.{IsPermutation}
use Rattle.std.specs.List.{AllByRecursion}
use Rattle.std.proofs.lemmas.Grind.{flat_map-append}
use Rattle.std.proofs.lemmas.List.{append-nil}
use Rattle.std.proofs.lemmas.List.Sorted.{IsPermutation-refl, IsPermutation-trans, IsPermutation-append_left, IsPermutation-append_right, IsPermutation-append_comm}
use Rattle.og_report_text.specs.Origins.{Rows}
use Rattle.og_report_findings.specs.Causes.{Item, with_more, cause_of, is_of_cause, joined, with_item, groups_from}
use Rattle.og_report_findings.specs.Entries.{Entry}
use Rattle.og_report_findings.specs.Order.{StandsBefore}
use Rattle.og_report_findings.specs.Told.{head_of, heads, told}
use Rattle.og_report_findings.proofs.Ordered.{Ordered, ordered_without}

-- ---- those that are shown stand in order

abbrev pub entries : List Item → List Entry
entries = map (λ i. i.entry)

all_shown : (P : Entry → Type 0) (es : List Entry) (ms : List (Option ℕ)) → AllByRecursion P es → AllByRecursion P (entries (with_more es ms))
all_shown P [] ms h = tt
all_shown P (e ∷ es) [] h = tt
all_shown P (e ∷ es) (None ∷ ms) h = all_shown P es ms h.1
all_shown P (e ∷ es) (Some m ∷ ms) h = (h.0, all_shown P es ms h.1)

pub ordered_shown : (es : List Entry) (ms : List (Option ℕ)) → Ordered StandsBefore es → Ordered StandsBefore (entries (with_more es ms))
ordered_shown [] ms h = tt
ordered_shown (e ∷ es) [] h = tt
ordered_shown (e ∷ es) (None ∷ ms) h = ordered_shown es ms h.1
ordered_shown (e ∷ es) (Some m ∷ ms) h = (all_shown (StandsBefore e) es ms h.0, ordered_shown es ms h.1)

module _ (names : List (List ℕ)) (source : List ℕ) (rows : Rows) where
  -- ---- so do the heads

  begun_head : (text : List ℕ) (i : Item) (g : List Item) → is_of_cause names source rows text g ≡ true → head_of (g ++ i ∷ []) ≡ head_of g
  begun_head text i [] is = absurd (true≢false (sym is))
  begun_head text i (x ∷ g) is = refl

  -- one more leaves the heads, or has the last one
  joined_heads : (text : List ℕ) (i : Item) (gs : List (List Item)) → (heads (joined names source rows text i gs) ≡ heads gs) ⊎ (heads (joined names source rows text i gs) ≡ heads gs ++ i.entry ∷ [])
  joined_heads text i [] = inr refl
  joined_heads text i (g ∷ gs) = from (is_of_cause names source rows text g) refl (joined_heads text i gs)
    where
      from : (b : Bool) → is_of_cause names source rows text g ≡ b → (heads (joined names source rows text i gs) ≡ heads gs) ⊎ (heads (joined names source rows text i gs) ≡ heads gs ++ i.entry ∷ [])
          → (heads (cond b ((g ++ i ∷ []) ∷ gs) (g ∷ joined names source rows text i gs)) ≡ heads (g ∷ gs)) ⊎ (heads (cond b ((g ++ i ∷ []) ∷ gs) (g ∷ joined names source rows text i gs)) ≡ heads (g ∷ gs) ++ i.entry ∷ [])
      from true e h = inl (ap (λ (hs : List Entry). hs ++ heads gs) (begun_head text i g e))
      from false e (inl h) = inl (ap (λ (hs : List Entry). head_of g ++ hs) h)
      from false e (inr h) = inr (ap (λ (hs : List Entry). head_of g ++ hs) h ∙ sym (append_assoc (head_of g) (heads gs) (i.entry ∷ [])))

  item_heads : (cause : Option (List ℕ)) (i : Item) (gs : List (List Item)) → (heads (with_item names source rows cause i gs) ≡ heads gs) ⊎ (heads (with_item names source rows cause i gs) ≡ heads gs ++ i.entry ∷ [])
  item_heads None i gs = inr (flat_map-append head_of gs ((i ∷ []) ∷ []))
  item_heads (Some text) i gs = joined_heads text i gs

  -- with one more of those that follow
  next_heads : (cause : Option (List ℕ)) (i : Item) (gs : List (List Item)) (es : List Entry) → Ordered StandsBefore (heads gs ++ i.entry ∷ es) → Ordered StandsBefore (heads (with_item names source rows cause i gs) ++ es)
  next_heads cause i gs es h = from (item_heads cause i gs)
    where
      from : (heads (with_item names source rows cause i gs) ≡ heads gs) ⊎ (heads (with_item names source rows cause i gs) ≡ heads gs ++ i.entry ∷ [])
          → Ordered StandsBefore (heads (with_item names source rows cause i gs) ++ es)
      from (inl is) = subst (λ (hs : List Entry). Ordered StandsBefore (hs ++ es)) (sym is) (ordered_without StandsBefore (heads gs) i.entry es h)
      from (inr is) = subst (λ (hs : List Entry). Ordered StandsBefore (hs ++ es)) (sym is) (subst (Ordered StandsBefore) (sym (append_assoc (heads gs) (i.entry ∷ []) es)) h)

  pub ordered_heads : (items : List Item) (gs : List (List Item)) → Ordered StandsBefore (heads gs ++ entries items) → Ordered StandsBefore (heads (groups_from names source rows gs items))
  ordered_heads [] gs h = subst (Ordered StandsBefore) (append-nil (heads gs)) h
  ordered_heads (i ∷ items) gs h =
      let cause = cause_of names source rows i.entry.diagnosis in
      ordered_heads items (with_item names source rows cause i gs) (next_heads cause i gs (entries items) h)

  -- ---- each is told once

  joined_told : (text : List ℕ) (i : Item) (gs : List (List Item)) → IsPermutation (told gs ++ i ∷ []) (told (joined names source rows text i gs))
  joined_told text i [] = IsPermutation-refl (i ∷ [])
  joined_told text i (g ∷ gs) = from (is_of_cause names source rows text g) (joined_told text i gs)
    where
      from : (b : Bool) → IsPermutation (told gs ++ i ∷ []) (told (joined names source rows text i gs)) → IsPermutation (told (g ∷ gs) ++ i ∷ []) (told (cond b ((g ++ i ∷ []) ∷ gs) (g ∷ joined names source rows text i gs)))
      from true others =
          subst (λ (xs : List Item). IsPermutation xs ((g ++ i ∷ []) ++ told gs)) (sym (append_assoc g (told gs) (i ∷ [])))
          (subst (IsPermutation (g ++ (told gs ++ i ∷ []))) (sym (append_assoc g (i ∷ []) (told gs)))
          (IsPermutation-append_right g (told gs ++ i ∷ []) (i ∷ told gs) (IsPermutation-append_comm (told gs) (i ∷ []))))
      from false others =
          subst (λ (xs : List Item). IsPermutation xs (g ++ told (joined names source rows text i gs))) (sym (append_assoc g (told gs) (i ∷ [])))
          (IsPermutation-append_right g (told gs ++ i ∷ []) (told (joined names source rows text i gs)) others)

  item_told : (cause : Option (List ℕ)) (i : Item) (gs : List (List Item)) → IsPermutation (told gs ++ i ∷ []) (told (with_item names source rows cause i gs))
  item_told None i gs = subst (IsPermutation (told gs ++ i ∷ [])) (sym (flat_map-append (λ (g : List Item). g) gs ((i ∷ []) ∷ []))) (IsPermutation-refl (told gs ++ i ∷ []))
  item_told (Some text) i gs = joined_told text i gs

  pub told_once : (items : List Item) (gs : List (List Item)) → IsPermutation (told gs ++ items) (told (groups_from names source rows gs items))
  told_once [] gs = subst (λ (xs : List Item). IsPermutation xs (told gs)) (sym (append-nil (told gs))) (IsPermutation-refl (told gs))
  told_once (i ∷ items) gs =
      let next = with_item names source rows (cause_of names source rows i.entry.diagnosis) i gs in
      let one_more = IsPermutation-append_left items (told gs ++ i ∷ []) (told next) (item_told (cause_of names source rows i.entry.diagnosis) i gs) in
      IsPermutation-trans (told gs ++ i ∷ items) (told next ++ items) (told (groups_from names source rows next items))
      (subst (λ (xs : List Item). IsPermutation xs (told next ++ items)) (append_assoc (told gs) (i ∷ []) items) one_more) (told_once items next)
