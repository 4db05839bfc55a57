-- The text of the certificates that are found.
use Rattle.std.proofs.Common.{◌≡◌, ◌⊎◌, inl, inr, ⊎_elim, ◌≤◌, ◌<◌, ℕ, ◌+◌, ◌-◌, zero, suc, List, [], ◌∷◌, ◌++◌, length, length-append, true, false, true≢false, Option, Some, None, refl, sym, ap, ◌∙◌, subst, arith}
use Rattle.std.specs.Prelude.{◌==◌, ◌&&◌, ◌↔◌, Bool, IsTrue, slice_get, is_none, is_some, codes, vec_len, IsSomeAnd}
use Rattle.std.specs.Global.{Vec}
use Rattle.std.specs.List.{list_all}
use Rattle.std.proofs.Math.Nat.{eq-or-lt_of_le}
use Rattle.std.proofs.lemmas.Bool.Decides.{nat_tests}
use Rattle.std.proofs.lemmas.Option.{slice_get_within}
use Rattle.og_cert_text.specs.Tree.{Cert}
use Rattle.og_cert_text.specs.Lines.{is_number}
use Rattle.og_cert_text.specs.Shallow.{is_well_formed}
use Rattle.og_cert_text.specs.Files.{Entries, certificate_of}
use Rattle.og_cert_text.specs.Listing.{file_text}
use Rattle.og_cert_text.specs.Rising.{rise_from}
use Rattle.og_cert_text.specs.Shown.{shown}
use Rattle.og_cert_text.specs.declared.file.CertFile.{CertFile}
use Rattle.og_cert_text.proofs.Forms.{both_true, le_true}
use Rattle.og_cert_text.proofs.Writing.{entries_text, entry_text}
use Rattle.og_cond.specs.Condition.{Condition}
use Rattle.og_cond.specs.Counting.{Leaves}
use Rattle.og_pool.specs.Answers.{AreAnswers}
use Rattle.og_find.specs.Found.{AreOf, Certifies}
use Rattle.og_find.specs.Missing.{lacks, missing_up_to}
use Rattle.og_find.specs.declared.verdict.Verdict.{Verdict}
use Rattle.og_find.specs.declared.verdict.Verdict.TheVariants as verdicts
use Rattle.og_find_all.specs.Findings.{verdict_of, AreVerdicts}
use Rattle.og_find_all.specs.Filing.{IsCertificateOf, AreFiled}
use Rattle.og_find_all.specs.Texts.{certificate_in, lines_of, lines_from, entry_lines, AreLines, with_first, entries_from, entries_of}
use Rattle.og_find_all.specs.Written.{IsWritten, IsText}
use Rattle.og_find_all.specs.declared.findings.Findings.{Findings}
use Rattle.og_find_all.specs.declared.writing.FoundText.TheVariants as texts
use Rattle.og_find_all.specs.declared.writing.Written.{Written}
use Rattle.og_find_all.proofs.Filed.{all_of}

-- ---- lines that workers made

pub are_lines : (n : ℕ) (vs : List Verdict) (all : List (Vec ℕ)) → AreAnswers n (λ k lines. lines.items ≡ lines_of (certificate_in (slice_get vs (k - 1)))) all → AreLines vs all
are_lines n vs all h place lines at =
    let back : place + 1 - 1 ≡ place = omega arith in
    h.1 place lines at ∙ ap (λ k. lines_of (certificate_in (slice_get vs k))) back

-- ---- one entry more

first_text : (n : ℕ) (o : Option Cert) (es : Entries) → entries_text (with_first n o es) ≡ entry_lines n o ++ entries_text es
first_text n None es = refl
first_text n (Some c) es = entry_text n c es

-- the lines of the first entry that is left, and those of the others
pub next_lines : (f : Findings) (i n : ℕ) → i < n → lines_from f i (n - i) ≡ entry_lines (i + 1) (certificate_in (verdict_of f i)) ++ lines_from f (i + 1) (n - (i + 1))
next_lines f i n lt =
    let left : n - i ≡ suc (n - (i + 1)) = omega arith in
    ap (lines_from f i) left

pub no_more_lines : (f : Findings) (i n : ℕ) → n ≤ i → lines_from f i (n - i) ≡ []
no_more_lines f i n none =
    let left : n - i ≡ zero = omega arith in
    ap (lines_from f i) left

lines_are_text : (f : Findings) (i k : ℕ) → lines_from f i k ≡ entries_text (entries_from f i k)
lines_are_text f i zero = refl
lines_are_text f i (suc k) =
    let o = certificate_in (verdict_of f i) in
    ap (λ l. entry_lines (i + 1) o ++ l) (lines_are_text f (i + 1) k) ∙ sym (first_text (i + 1) o (entries_from f (i + 1) k))

-- the first line and the lines of all entries
pub whole_text : (f : Findings) (head : List ℕ) → head ≡ codes "og-cert 1\n" → head ++ lines_from f 0 (vec_len f.own) ≡ file_text (entries_of f)
whole_text f head is =
    ap (λ l. l ++ lines_from f 0 (vec_len f.own)) is
    ∙ ap (λ n. codes "og-cert 1\n" ++ lines_from f 0 n) f.own.ok.0
    ∙ ap (λ l. codes "og-cert 1\n" ++ l) (lines_are_text f 0 (length f.own.items))

-- ---- the entries are those of the verdicts

is_certificate : (o : Option Verdict) (c : Cert) → certificate_in o ≡ Some c → IsCertificateOf o c
is_certificate None c e = absurd (cc)
is_certificate (Some (verdicts.True cert)) c e = cc
is_certificate (Some (verdicts.False s)) c e = absurd (cc)
is_certificate (Some verdicts.Open) c e = absurd (cc)

filed : (f : Findings) (i k : ℕ) → AreFiled f.own.items f.places.items f.verdicts.items (entries_from f i k)
filed f i zero = tt
filed f i (suc k) = first (certificate_in (verdict_of f i)) refl (filed f (i + 1) k)
  where
    first : (o : Option Cert) → certificate_in (verdict_of f i) ≡ o → AreFiled f.own.items f.places.items f.verdicts.items (entries_from f (i + 1) k)
        → AreFiled f.own.items f.places.items f.verdicts.items (with_first (i + 1) o (entries_from f (i + 1) k))
    first None e rest = rest
    first (Some c) e rest =
        let back : i ≡ i + 1 - 1 = omega arith in
        ((omega arith, subst (λ (j : ℕ). IsCertificateOf (verdict_of f j) c) back (is_certificate (verdict_of f i) c e)), rest)

-- ---- they are those of a file

rising : (f : Findings) (low i k : ℕ) → low ≤ i + 1 → rise_from low (entries_from f i k) ≡ true
rising f low i zero h = refl
rising f low i (suc k) h = first (certificate_in (verdict_of f i)) (rising f low (i + 1) k (omega arith)) (rising f (i + 1 + 1) (i + 1) k (omega arith))
  where
    first : (o : Option Cert) → rise_from low (entries_from f (i + 1) k) ≡ true → rise_from (i + 1 + 1) (entries_from f (i + 1) k) ≡ true → rise_from low (with_first (i + 1) o (entries_from f (i + 1) k)) ≡ true
    first None rest above = rest
    first (Some c) rest above = both_true _ _ (le_true low (i + 1) h) above

one_good : (cs : List Condition) (n : ℕ) (proof : Cert) (o : Option Condition) → 0 < n → slice_get cs (n - 1) ≡ o → IsSomeAnd o (λ c. Certifies c proof) → (n ≤ length cs) × (is_well_formed proof ≡ true)
one_good cs n proof None some at h = absurd h
one_good cs n proof (Some c) some at h =
    let within = slice_get_within cs (n - 1) c at in
    (omega arith, h.0)

all_good : (cs : List Condition) (es : Entries) → length cs ≤ 999999999 → AreOf cs es → list_all (λ e. is_number e.0 && is_well_formed e.1) es ≡ true
all_good cs [] few h = refl
all_good cs (e ∷ es) few h =
    let good = one_good cs e.0 e.1 (slice_get cs (e.0 - 1)) h.0.0 refl h.0.1 in
    let within = good.0 in
    let number = both_true _ _ (le_true 1 e.0 h.0.0) (le_true e.0 999999999 (omega arith)) in
    both_true _ _ (both_true _ _ number good.1) (all_good cs es few h.1)

-- ---- each condition's certificate in them

none_below : (f : Findings) (m i k : ℕ) → m ≤ i → certificate_of m (entries_from f i k) ≡ None
none_below f m i zero h = refl
none_below f m i (suc k) h = first (certificate_in (verdict_of f i)) (none_below f m (i + 1) k (omega arith))
  where
    first : (o : Option Cert) → certificate_of m (entries_from f (i + 1) k) ≡ None → certificate_of m (with_first (i + 1) o (entries_from f (i + 1) k)) ≡ None
    first None rest = rest
    first (Some c) rest =
        let no : (m == i + 1) ≡ false = grind (arith, nat_tests) in
        rw no rest

-- the certificate under the number of the first entry, and under a greater one
at_first : (n : ℕ) (o : Option Cert) (es : Entries) → certificate_of n es ≡ None → certificate_of n (with_first n o es) ≡ o
at_first n None es none = none
at_first n (Some c) es none =
    let yes : (n == n) ≡ true = grind (arith, nat_tests) in
    rw yes refl

past_first : (m n : ℕ) (o : Option Cert) (es : Entries) → n < m → certificate_of m (with_first n o es) ≡ certificate_of m es
past_first m n None es lt = refl
past_first m n (Some c) es lt =
    let no : (m == n) ≡ false = grind (arith, nat_tests) in
    rw no refl

-- the certificate of the condition at the index, under its number
found_at : (f : Findings) (j i k : ℕ) → i ≤ j → j < i + k → certificate_of (j + 1) (entries_from f i k) ≡ certificate_in (verdict_of f j)
found_at f j i zero above below = absurd (omega arith)
found_at f j i (suc k) above below = ⊎_elim
    (λ (here : i ≡ j). subst (λ (m : ℕ). certificate_of (m + 1) (entries_from f i (suc k)) ≡ certificate_in (verdict_of f m)) here
    (at_first (i + 1) (certificate_in (verdict_of f i)) (entries_from f (i + 1) k) (none_below f (i + 1) (i + 1) k (omega arith))))
    (λ (later : i < j). past_first (j + 1) (i + 1) (certificate_in (verdict_of f i)) (entries_from f (i + 1) k) (omega arith) ∙ found_at f j (i + 1) k (omega arith) (omega arith))
    (eq-or-lt_of_le above)

-- ---- the whole

-- a condition lacks a certificate in the entries where its verdict has none
pub lacks_at : (f : Findings) (i : ℕ) → i < length f.own.items → lacks (entries_of f) (i + 1) ≡ is_none (certificate_in (verdict_of f i))
lacks_at f i below = ap is_none (found_at f i 0 (length f.own.items) (omega arith) (omega arith))

is_written : (cs : List Condition) (f : Findings) (w : Written) → AreVerdicts cs f → length cs ≤ 999999999 → w.certificates ≡ file_text (entries_of f)
    → w.missing.count ≡ missing_up_to (entries_of f) (length f.own.items) → w.missing.conditions ≡ length f.own.items → IsWritten cs w
is_written cs f w h few text missing conditions =
    let es = entries_of f in
    let count = length f.own.items in
    let of = all_of cs f es h (filed f 0 count) in
    let file = both_true _ _ (rising f 0 0 count (omega arith)) (all_good cs es few of) in
    (es, of, file, text, missing ∙ ap (missing_up_to es) h.0, conditions ∙ h.0)

-- a text that is written is within the limit
pub is_text : (cs : List Condition) (f : Findings) (w : Written) (limit : ℕ) → AreVerdicts cs f → length cs ≤ 999999999 → w.certificates ≡ file_text (entries_of f) → length (file_text (entries_of f)) ≤ limit
    → w.missing.count ≡ missing_up_to (entries_of f) (length f.own.items) → w.missing.conditions ≡ length f.own.items → IsText limit cs (texts.Within w)
is_text cs f w limit h few text within missing conditions =
    (is_written cs f w h few text missing conditions, subst (λ (t : List ℕ). length t ≤ limit) (sym text) within)

-- certificates whose text is longer
pub is_too_long : (cs : List Condition) (f : Findings) (file : CertFile) (limit : ℕ) → AreVerdicts cs f → AreFiled f.own.items f.places.items f.verdicts.items (shown file) → limit < length (file_text (entries_of f)) → IsText limit cs (texts.TooLong file)
is_too_long cs f file limit h filing longer =
    (all_of cs f (shown file) h filing, (entries_of f, all_of cs f (entries_of f) h (filed f 0 (length f.own.items)), longer))

-- ---- the rest of the room

-- a text and the lines of all entries
pub whole_length : (f : Findings) → length (codes "og-cert 1\n") + length (lines_from f 0 (vec_len f.own)) ≡ length (file_text (entries_of f))
whole_length f =
    sym (length-append (codes "og-cert 1\n") (lines_from f 0 (vec_len f.own))) ∙ ap length (whole_text f (codes "og-cert 1\n") refl)

pub next_length : (f : Findings) (i n : ℕ) → i < n → length (lines_from f i (n - i)) ≡ length (entry_lines (i + 1) (certificate_in (verdict_of f i))) + length (lines_from f (i + 1) (n - (i + 1)))
next_length f i n lt =
    ap length (next_lines f i n lt) ∙ length-append (entry_lines (i + 1) (certificate_in (verdict_of f i))) (lines_from f (i + 1) (n - (i + 1)))

pub no_more_length : (f : Findings) (i n : ℕ) → n ≤ i → length (lines_from f i (n - i)) ≡ 0
no_more_length f i n none = ap length (no_more_lines f i n none)

-- a text is within the limit exactly where the room behind its first line takes the lines of all entries
pub fits : (f : Findings) (limit room : ℕ) (left : Option ℕ) (yes : Bool) → limit ≡ 10 + room → Leaves room (length (lines_from f 0 (vec_len f.own))) left → yes ≡ is_some left
    → IsTrue yes ↔ (length (file_text (entries_of f)) ≤ limit)
fits f limit room None b all longer is =
    let whole = whole_length f in (λ e. absurd (true≢false (sym e ∙ is)), λ few. absurd (omega (arith, all, longer, whole, few)))
fits f limit room (Some n) b all left is =
    let whole = whole_length f in (λ e. omega (arith, all, left, whole), λ few. is)

at_most_or_more : (n m : ℕ) → (n ≤ m) ⊎ (m < n)
at_most_or_more zero m = inl (omega arith)
at_most_or_more (suc n) zero = inr (omega arith)
at_most_or_more (suc n) (suc m) = ⊎_elim (λ few. inl (omega (arith, few))) (λ more. inr (omega (arith, more))) (at_most_or_more n m)

pub longer_of : (f : Findings) (limit : ℕ) (yes : Bool) → IsTrue yes ↔ (length (file_text (entries_of f)) ≤ limit) → yes ≡ false → limit < length (file_text (entries_of f))
longer_of f limit b both e =
    ⊎_elim (λ few. absurd (true≢false (sym (both.1 few) ∙ e))) (λ longer. longer) (at_most_or_more (length (file_text (entries_of f))) limit)

pub within_of : (f : Findings) (limit : ℕ) (yes : Bool) → IsTrue yes ↔ (length (file_text (entries_of f)) ≤ limit) → yes ≡ true → length (file_text (entries_of f)) ≤ limit
within_of f limit b both is = both.0 is
