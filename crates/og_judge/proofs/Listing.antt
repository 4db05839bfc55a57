-- Entries, and what their statuses show.
use Rattle.std.proofs.Common.{◌≡◌, ℕ, suc, ◌+◌, ◌<◌, List, [], ◌∷◌, ◌++◌, length, slice_get, Some, None, Ok, Err, Option, Result, true, refl, sym, ap, ap₂, ◌∙◌, ◌-◌, take, drop, map, length-append, append_assoc, drop-cons, add-one, arith, true≢false}
use Rattle.std.specs.List.{list_all}
use Rattle.std.proofs.Math.Seq.{take-append_seam}
use Rattle.std.proofs.lemmas.List.{length-map}
use Rattle.std.proofs.lemmas.Option.{same_Some, slice_get_within, get_or_from_slice_get}
use Rattle.std.proofs.lemmas.Bool.{and_parts}
use Rattle.og_cond.specs.Condition.{Condition}
use Rattle.og_cond.specs.Valid.{IsValid, AreValid}
use Rattle.og_facts.specs.Facts.{Fact, facts_of}
use Rattle.og_facts.specs.declared.fault.FactsFault.{FactsFault}
use Rattle.og_cert_text.specs.Tree.{Cert}
use Rattle.og_cond.specs.Seen.{seen}
use Rattle.og_cond.specs.declared.condition.Condition as its
use Rattle.og_cert_text.specs.Files.{Entries, certificate_of}
use Rattle.og_cert_text.specs.Shown.{shown}
use Rattle.og_cert_text.specs.declared.file.CertFile.{CertFile}
use Rattle.og_cert.specs.Faults.{first_fault}
use Rattle.og_cert.specs.Law.{ClosesWithoutFault, ClosedIsValid}
use Rattle.og_cert.specs.declared.fault.ReplayFault.{ReplayFault}
use Rattle.og_pool.specs.Status.{by_fault, by_facts, by_cert}
use Rattle.og_pool.specs.Numbered.{by_condition, status_of}
use Rattle.og_pool.specs.declared.status.Status.{Status}
use Rattle.og_judge.specs.declared.entry.Entry.{Entry}
use Rattle.og_judge.specs.Entries.{entry_of, entries_from, is_proved, is_safe, is_there_and_proved, is_unblocked}
use Rattle.og_judge.specs.Parts.{listed_from}

-- each condition's status, at the places from the front
listed_is : (n : ℕ) (file : Entries) (cs : List Condition) (ss : List Status) → length ss ≡ length cs
    → ((i : ℕ) → i < length cs → slice_get ss i ≡ Some (by_condition (slice_get cs i) (certificate_of (n + i) file)))
    → listed_from cs ss ≡ entries_from n file cs
listed_is n file [] ss len each = refl
listed_is n file (c ∷ cs) [] len each = absurd (omega (arith, len))
listed_is n file (c ∷ cs) (s ∷ ss) len each =
    let first : s ≡ by_cert c (certificate_of n file) = status_at (each 0 (omega arith)) in
    let rest = listed_is (suc n) file cs ss (omega (arith, len)) (λ i less. later i (each (suc i) (omega (arith, less)))) in
    ap₂ (λ e es. entry_of c e ∷ es) first rest
  where
    status_at : Some s ≡ Some (by_cert c (certificate_of (n + 0) file)) → s ≡ by_cert c (certificate_of n file)
    status_at e = same_Some _ _ (e ∙ ap (λ k. Some (by_cert c (certificate_of k file))) (omega arith))

    later : (i : ℕ) → slice_get ss i ≡ Some (by_condition (slice_get cs i) (certificate_of (n + suc i) file))
        → slice_get ss i ≡ Some (by_condition (slice_get cs i) (certificate_of (suc n + i) file))
    later i e = e ∙ ap (λ k. Some (by_condition (slice_get cs i) (certificate_of k file))) (omega arith)

-- the statuses make the entries
pub listed_entries : (conds : List its.Condition) (file : CertFile) (ss : List Status) (cs : List Condition) (es : List Entry) → map seen conds ≡ cs
    → length ss ≡ length conds → ((i : ℕ) → i < length conds → slice_get ss i ≡ Some (status_of conds file (i + 1)))
    → es ≡ listed_from (map seen conds) ss → es ≡ entries_from 1 (shown file) cs
unfolding status_of
listed_entries conds file ss cs es same len each made =
    let long = length-map conds seen in
    made ∙ listed_is 1 (shown file) (map seen conds) ss (omega (arith, len, long)) (λ i less. at i (each i (omega (arith, less, long)))) ∙ ap (entries_from 1 (shown file)) same
  where
    at : (i : ℕ) → slice_get ss i ≡ Some (by_condition (slice_get (map seen conds) (i + 1 - 1)) (certificate_of (i + 1) (shown file)))
        → slice_get ss i ≡ Some (by_condition (slice_get (map seen conds) i) (certificate_of (1 + i) (shown file)))
    at i e = e ∙ ap₂ (λ j k. Some (by_condition (slice_get (map seen conds) j) (certificate_of k (shown file)))) (omega arith) (omega arith)

-- one entry more
pub listed_turn : (cs : List Condition) (ss : List Status) (i : ℕ) (c : Condition) (s : Status) (before after whole : List Entry) → slice_get cs i ≡ Some c → slice_get ss i ≡ Some s
    → after ≡ before ++ entry_of c s ∷ [] → before ++ listed_from (drop i cs) (drop i ss) ≡ whole → after ++ listed_from (drop (i + 1) cs) (drop (i + 1) ss) ≡ whole
listed_turn cs ss i c s before after whole c_is s_is more h =
    let rest = listed_from (drop (i + 1) cs) (drop (i + 1) ss) in
    ap (λ l. l ++ rest) more ∙ append_assoc before (entry_of c s ∷ []) rest
    ∙ ap₂ (λ k l. before ++ listed_from k l) (sym (dropped cs i c c_is)) (sym (dropped ss i s s_is)) ∙ h
  where
    dropped : {X : Type 0} (xs : List X) (i : ℕ) (x : X) → slice_get xs i ≡ Some x → drop i xs ≡ x ∷ drop (i + 1) xs
    dropped xs i x found = drop-cons xs i x (slice_get_within xs i x found) ∙ ap₂ (λ u j. u ∷ drop j xs) (get_or_from_slice_get xs i x x found) (sym (add-one i))

-- the entries of conditions and of one more
with_last : (n : ℕ) (file : Entries) (cs : List Condition) (last : Condition)
    → (e : Entry) × (k : ℕ) × (entries_from n file (cs ++ last ∷ []) ≡ entries_from n file cs ++ e ∷ []) × (e ≡ entry_of last (by_cert last (certificate_of k file)))
with_last n file [] last = (entry_of last (by_cert last (certificate_of n file)), n, refl, refl)
with_last n file (c ∷ cs) last =
    let rest = with_last (suc n) file cs last in
    (rest.0, rest.1, ap (λ es. entry_of c (by_cert c (certificate_of n file)) ∷ es) rest.2, rest.3)

length_more : (es : List Entry) (e : Entry) → length (es ++ e ∷ []) - 1 ≡ length es
length_more es e = let l = length-append es (e ∷ []) in omega (arith, l)

but_the_last : (n : ℕ) (file : Entries) (cs : List Condition) (last : Condition)
    → take (length (entries_from n file (cs ++ last ∷ [])) - 1) (entries_from n file (cs ++ last ∷ [])) ≡ entries_from n file cs
but_the_last n file cs last =
    let more = with_last n file cs last in
    ap (λ es. take (length es - 1) es) more.2
    ∙ ap (λ k. take k (entries_from n file cs ++ more.0 ∷ [])) (length_more (entries_from n file cs) more.0)
    ∙ take-append_seam (entries_from n file cs) (more.0 ∷ [])

get_more : (es : List Entry) (e : Entry) → slice_get (es ++ e ∷ []) (length es) ≡ Some e
get_more [] e = refl
get_more (x ∷ es) e = get_more es e

the_last : (n : ℕ) (file : Entries) (cs : List Condition) (last : Condition)
    → (k : ℕ) × (slice_get (entries_from n file (cs ++ last ∷ [])) (length (entries_from n file (cs ++ last ∷ [])) - 1) ≡ Some (entry_of last (by_cert last (certificate_of k file))))
the_last n file cs last =
    let more = with_last n file cs last in (
      more.1,
      ap (λ es. slice_get es (length es - 1)) more.2
          ∙ ap (slice_get (entries_from n file cs ++ more.0 ∷ [])) (length_more (entries_from n file cs) more.0)
          ∙ get_more (entries_from n file cs) more.0
          ∙ ap Some more.3,
    )

module _ (faults : ClosesWithoutFault) (valid : ClosedIsValid) where
  by_no_fault : (c : Condition) (fs : List Fact) (proof : Cert) (f : Option ReplayFault) → facts_of c ≡ Ok fs
      → first_fault c.variables fs proof ≡ f → is_proved (entry_of c (by_fault f)) ≡ true → IsValid c
  by_no_fault c fs proof None of_c none h = valid c c.variables fs proof of_c ((faults c.variables fs proof).1 none)
  by_no_fault c fs proof (Some f) of_c none h = absurd (true≢false (sym h))

  by_its_facts : (c : Condition) (proof : Cert) (r : Result (List Fact) FactsFault) → facts_of c ≡ r
      → is_proved (entry_of c (by_facts c.variables r proof)) ≡ true → IsValid c
  by_its_facts c proof (Err e) of_c h = absurd (true≢false (sym h))
  by_its_facts c proof (Ok fs) of_c h = by_no_fault c fs proof (first_fault c.variables fs proof) of_c refl h

  -- a condition that is proved is true
  proved_is_valid : (c : Condition) (proof : Option Cert) → is_proved (entry_of c (by_cert c proof)) ≡ true → IsValid c
  proved_is_valid c None h = absurd (true≢false (sym h))
  proved_is_valid c (Some proof) h = by_its_facts c proof (facts_of c) refl h

  all_valid : (n : ℕ) (file : Entries) (cs : List Condition) → list_all is_proved (entries_from n file cs) ≡ true → AreValid cs
  all_valid n file [] h = tt
  all_valid n file (c ∷ cs) h =
      let parts = and_parts (is_proved (entry_of c (by_cert c (certificate_of n file)))) (list_all is_proved (entries_from (suc n) file cs)) h in
      (proved_is_valid c (certificate_of n file) parts.0, all_valid (suc n) file cs parts.1)

  pub safe_is_valid : (n : ℕ) (file : Entries) (cs : List Condition) (last : Condition)
      → is_safe (entries_from n file (cs ++ last ∷ [])) ≡ true → AreValid cs
  safe_is_valid n file cs last h = all_valid n file cs (ap (list_all is_proved) (sym (but_the_last n file cs last)) ∙ h)

  pub unblocked_is_valid : (n : ℕ) (file : Entries) (cs : List Condition) (last : Condition)
      → is_unblocked (entries_from n file (cs ++ last ∷ [])) ≡ true → IsValid last
  unblocked_is_valid n file cs last h =
      let there = the_last n file cs last in
      proved_is_valid last (certificate_of there.0 file) (ap is_there_and_proved (sym there.1) ∙ h)
