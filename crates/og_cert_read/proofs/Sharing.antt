-- Version 2's text of a file.
use Rattle.std.proofs.Common.{◌≡◌, ℕ, ◌+◌, ◌<◌, ◌≤◌, List, [], ◌∷◌, ◌++◌, map, length, refl, ap, sym, ◌∙◌, subst, ◌&&◌, true, false, cond, Bool, Option, Some, None, Result, Ok, Err, append_assoc, length-append, arith}
use Rattle.std.specs.Prelude.{nat_lt, nat_le, is_some}
use Rattle.std.specs.Str.{bytes_eq}
use Rattle.std.specs.Cmp.Lexicographic.{bytes_decides}
use Rattle.std.specs.List.{list_all}
use Rattle.std.proofs.lemmas.Bool.Decides.{nat_tests}
use Rattle.std.proofs.lemmas.List.Folds.{list_all-append}
use Rattle.og_cert_text.specs.Tree.{Cert, Close}
use Rattle.og_cert_text.specs.Lines.{Line, ForCondition, is_line, is_number}
use Rattle.og_cert_text.specs.Shallow.{is_shallow, is_well_formed, cert_lines}
use Rattle.og_cert_text.specs.Files.{Entries, certificate_of, with_entry}
use Rattle.og_cert_text.specs.Rising.{is_file, rise_from}
use Rattle.og_cert_text.specs.Text.{One, Two, version_text}
use Rattle.og_cert_text.specs.Listing.{Whole, SameAs, listed_lines, listing_lines, lines_text, file_text}
use Rattle.og_cert_text.proofs.Forms.{and_parts, le_from, le_true, both_true}
use Rattle.og_cert_text.proofs.Writing.{lines_both}
use Rattle.og_cert_read.specs.Text.{most_text, pieces}
use Rattle.og_cert_read.specs.Reading.{within, between, LineFault, Twice, goes, or_bad, read_lines, nothing_read}
use Rattle.og_cert_read.specs.Read.{Gives}
use Rattle.og_cert_read.specs.Reader.{read_piece}
use Rattle.og_cert_read.specs.Shared.{listed_text, cert_text, first_with, listed_as, listing_after, shared_text}
use Rattle.og_cert_read.proofs.Numbers.{apart}
use Rattle.og_cert_read.proofs.Split.{same}
use Rattle.og_cert_read.proofs.Again.{before, before_append, before_map, cert_again, below, below_none, below_end, below_more, below_up, whole_lines}
use Rattle.og_cert_read.proofs.Texts.{lines_say, each_once}

-- ---- certificates with one text are equal

same_lines : (ls ms : List Line) → list_all is_line ls ≡ true → list_all is_line ms ≡ true → lines_text ls ≡ lines_text ms → map Some ls ≡ map Some ms
same_lines ls ms g h e =
    each_once (pieces (lines_text ls)) (map Some ls) (lines_say ls g) ∙ ap (λ t. map read_piece (pieces t)) e ∙ sym (each_once (pieces (lines_text ms)) (map Some ms) (lines_say ms h))

abbrev first_cert : Entries → Cert
first_cert [] = Close []
first_cert (e ∷ es) = e.1

ok_same : (a b : Entries) → ◌≡◌ {A = Result Entries (LineFault × ℕ)} (Ok a) (Ok b) → a ≡ b
ok_same a b e = cc

cert_alone : (c : Cert) → is_shallow 0 c ≡ true → read_lines Two 0 (within [] 1 []) (map Some (cert_lines c)) ≡ Ok ((1, c) ∷ [])
cert_alone c h = ap (read_lines Two 0 (within [] 1 [])) (sym (before_map (cert_lines c))) ∙ cert_again c Two [] 1 [] [] h 0 ((1, c) ∷ []) (λ later. refl)

pub same_cert : (c d : Cert) → is_well_formed c ≡ true → is_well_formed d ≡ true → cert_text c ≡ cert_text d → c ≡ d
same_cert c d g h e =
    let p = and_parts (is_shallow 0 c) (list_all is_line (cert_lines c)) g in
    let q = and_parts (is_shallow 0 d) (list_all is_line (cert_lines d)) h in
    let lines = same_lines (cert_lines c) (cert_lines d) p.1 q.1 e in
    ap first_cert (ok_same ((1, c) ∷ []) ((1, d) ∷ []) (sym (cert_alone c p.0) ∙ ap (read_lines Two 0 (within [] 1 [])) lines ∙ cert_alone d q.0))

-- ---- the first number with a text

abbrev GoodEntry : ℕ × Cert → Type 0
GoodEntry e = (is_number e.0 ≡ true) × (is_well_formed e.1 ≡ true)

abbrev are_good : Entries → Type 0
are_good es = list_all (λ e. is_number e.0 && is_well_formed e.1) es ≡ true

good_parts : (e : ℕ × Cert) (es : Entries) → are_good (e ∷ es) → GoodEntry e × are_good es
good_parts e es h =
    let p = and_parts (is_number e.0 && is_well_formed e.1) (list_all (λ x. is_number x.0 && is_well_formed x.1) es) h in
    let q = and_parts (is_number e.0) (is_well_formed e.1) p.0 in
    (q, p.1)

pub record FirstIs (t : List ℕ) (es : Entries) (k low : ℕ) : Type 0 where
  pub c : Cert
  pub at : certificate_of k es ≡ Some c
  pub is : t ≡ cert_text c
  pub good : (is_number k ≡ true) × (is_well_formed c ≡ true)
  pub up : low ≤ k

first_is : (t : List ℕ) (es : Entries) (k low : ℕ) → rise_from low es ≡ true → are_good es → first_with t es ≡ Some k → FirstIs t es k low
first_is t [] k low rise good h = cc
first_is t (e ∷ es) k low rise good h =
    let r = and_parts (nat_le low e.0) (rise_from (e.0 + 1) es) rise in
    let g = good_parts e es good in
    from (bytes_eq t (cert_text e.1)) refl h (le_from low e.0 r.0) g.0 (first_is t es k (e.0 + 1) r.1 g.1)
  where
    from : (b : Bool) → bytes_eq t (cert_text e.1) ≡ b → cond b (Some e.0) (first_with t es) ≡ Some k → low ≤ e.0 → GoodEntry e → (first_with t es ≡ Some k → FirstIs t es k (e.0 + 1)) → FirstIs t (e ∷ es) k low
    from true is h le g later =
        let n : e.0 ≡ k = some_number e.0 k h in
        record {
          c = e.1;
          at = ap (λ b. cond b (Some e.1) (certificate_of k es)) (same k e.0 (sym n));
          is = (bytes_decides t (cert_text e.1)).0 is;
          good = (subst (λ m. is_number m ≡ true) n g.0, g.1);
          up = omega (arith, n, le);
        }
      where
        some_number : (a b : ℕ) → ◌≡◌ {A = Option ℕ} (Some a) (Some b) → a ≡ b
        some_number a b p = cc
    from false is h le g later =
        let f = later h in
        record {
          c = f.c;
          at = ap (λ b. cond b (Some e.1) (certificate_of k es)) (apart k e.0 (λ p. omega (arith, p, f.up))) ∙ f.at;
          is = f.is;
          good = f.good;
          up = omega (arith, f.up, le);
        }

-- ---- version 2's text is read

rise_end : (es : Entries) (low : ℕ) (n : ℕ) (c : Cert) → rise_from low es ≡ true → below n es → low ≤ n → rise_from low (es ++ (n, c) ∷ []) ≡ true
rise_end [] low n c rise b le = both_true _ _ (le_true low n le) refl
rise_end (e ∷ es) low n c rise b le =
    let r = and_parts (nat_le low e.0) (rise_from (e.0 + 1) es) rise in
    both_true _ _ r.0 (rise_end es (e.0 + 1) n c r.1 b.1 (omega (arith, b.0)))

good_more : (es : Entries) (e : ℕ × Cert) → are_good es → GoodEntry e → are_good (es ++ e ∷ [])
good_more [] e h g = both_true _ _ (both_true _ _ g.0 g.1) refl
good_more (x ∷ es) e h g = let p = good_parts x es h in both_true _ _ (both_true _ _ p.0.0 p.0.1) (good_more es e p.1 g)

abbrev pub shared_lines : Entries → Entries → List Line
shared_lines done es = listing_lines (listing_after done es)

-- the lines listed for a certificate are read as that certificate
listed_again : (l : Bool) (k n at : ℕ) (c : Cert) (done all : Entries) (ms : List (Option Line)) → is_shallow 0 c ≡ true → certificate_of k done ≡ Some c
    → ((later : ℕ) → read_lines Two later (between (with_entry n c done)) ms ≡ Ok all) → read_lines Two at (within done n []) (before (listed_lines (cond l (SameAs k) (Whole c))) ms) ≡ Ok all
listed_again true k n at c done all ms s is h =
    ap (λ o. goes at (or_bad o (λ d. between (with_entry n d done))) (λ next. read_lines Two (at + 1) next ms)) is ∙ h (at + 1)
listed_again false k n at c done all ms s is h = cert_again c Two done n [] ms s at all h

entry_again : (o : Option ℕ) (n at : ℕ) (c : Cert) (done all : Entries) (ms : List (Option Line)) → first_with (cert_text c) done ≡ o → rise_from 0 done ≡ true → are_good done → is_well_formed c ≡ true
    → ((later : ℕ) → read_lines Two later (between (with_entry n c done)) ms ≡ Ok all) → read_lines Two at (within done n []) (before (listed_lines (listed_as o c)) ms) ≡ Ok all
entry_again None n at c done all ms is rise good w h = cert_again c Two done n [] ms (and_parts (is_shallow 0 c) (list_all is_line (cert_lines c)) w).0 at all h
entry_again (Some k) n at c done all ms is rise good w h =
    let f = first_is (cert_text c) done k 0 rise good is in
    let e = same_cert c f.c w f.good.1 f.is in
    listed_again (nat_lt (length (listed_text (SameAs k))) (length (cert_text c))) k n at c done all ms (and_parts (is_shallow 0 c) (list_all is_line (cert_lines c)) w).0 (f.at ∙ ap Some (sym e)) h

shared_again : (es done all : Entries) (low : ℕ) → below low done → rise_from 0 done ≡ true → are_good done → rise_from low es ≡ true → are_good es → done ++ es ≡ all
    → (at : ℕ) → read_lines Two at (between done) (before (shared_lines done es) []) ≡ Ok all
shared_again [] done all low b risen held rise good e at = ap Ok (sym (none_past done) ∙ e)
  where
    none_past : (xs : Entries) → xs ++ [] ≡ xs
    none_past [] = refl
    none_past (y ∷ ys) = ap (λ zs. y ∷ zs) (none_past ys)
shared_again (x ∷ es) done all low b risen held rise good e at =
    let r = and_parts (nat_le low x.0) (rise_from (x.0 + 1) es) rise in
    let g = good_parts x es good in
    let up = below_up low x.0 done (le_from low x.0 r.0) b in
    let o = first_with (cert_text x.1) done in
    let rest = shared_lines (done ++ x ∷ []) es in
    ap (λ o. goes at (cond (is_some o) (Err Twice) (Ok (within done x.0 []))) (λ next. read_lines Two (at + 1) next (before (listed_lines (listed_as (first_with (cert_text x.1) done) x.1) ++ rest) []))) (below_none x.0 done up)
    ∙ ap (read_lines Two (at + 1) (within done x.0 [])) (before_append (listed_lines (listed_as o x.1)) rest [])
    ∙ entry_again o x.0 (at + 1) x.1 done all (before rest []) refl risen held g.0.1
    (λ later. ap (λ d. read_lines Two later (between d) (before rest [])) (below_end x.0 x.1 done up)
    ∙ shared_again es (done ++ x ∷ []) all (x.0 + 1) (below_more x.0 (x.0 + 1) x.1 done (omega arith) up) (rise_end done 0 x.0 x.1 risen up (omega arith)) (good_more done x held g.0) r.1 g.1
    (append_assoc done (x ∷ []) es ∙ e) later)

-- each line is within the limits
listed_good : (l : Bool) (k : ℕ) (c : Cert) → is_number k ≡ true → list_all is_line (cert_lines c) ≡ true → list_all is_line (listed_lines (cond l (SameAs k) (Whole c))) ≡ true
listed_good true k c h g = both_true _ _ h refl
listed_good false k c h g = g

entry_good : (o : Option ℕ) (c : Cert) (done : Entries) → first_with (cert_text c) done ≡ o → rise_from 0 done ≡ true → are_good done → is_well_formed c ≡ true → list_all is_line (listed_lines (listed_as o c)) ≡ true
entry_good None c done is rise good w = (and_parts (is_shallow 0 c) (list_all is_line (cert_lines c)) w).1
entry_good (Some k) c done is rise good w =
    let f = first_is (cert_text c) done k 0 rise good is in
    listed_good (nat_lt (length (listed_text (SameAs k))) (length (cert_text c))) k c f.good.0 (and_parts (is_shallow 0 c) (list_all is_line (cert_lines c)) w).1

shared_good : (es done : Entries) (low : ℕ) → below low done → rise_from 0 done ≡ true → are_good done → rise_from low es ≡ true → are_good es → list_all is_line (shared_lines done es) ≡ true
shared_good [] done low b risen held rise good = refl
shared_good (x ∷ es) done low b risen held rise good =
    let r = and_parts (nat_le low x.0) (rise_from (x.0 + 1) es) rise in
    let g = good_parts x es good in
    let up = below_up low x.0 done (le_from low x.0 r.0) b in
    let o = first_with (cert_text x.1) done in
    list_all-append is_line (ForCondition x.0 ∷ listed_lines (listed_as o x.1)) (shared_lines (done ++ x ∷ []) es)
    ∙ both_true _ _ (both_true _ _ g.0.0 (entry_good o x.1 done refl risen held g.0.1))
    (shared_good es (done ++ x ∷ []) (x.0 + 1) (below_more x.0 (x.0 + 1) x.1 done (omega arith) up) (rise_end done 0 x.0 x.1 risen up (omega arith)) (good_more done x held g.0) r.1 g.1)

pub shared_is_read : (es : Entries) → is_file es ≡ true → length (shared_text es) ≤ most_text → Gives (shared_text es) (Ok es)
shared_is_read es h small =
    let p = and_parts (rise_from 0 es) (list_all (λ e. is_number e.0 && is_well_formed e.1) es) h in
    let lines = shared_lines [] es in (
      small,
      Two,
      lines_text lines,
      refl,
      map Some lines,
      lines_say lines (shared_good es [] 0 tt refl refl p.0 p.1),
      ap (read_lines Two 2 nothing_read) (sym (before_map lines)) ∙ shared_again es [] es 0 tt refl refl p.0 p.1 refl 2,
    )

-- ---- and not longer

listed_short : (o : Option ℕ) (c : Cert) → length (listed_text (listed_as o c)) ≤ length (cert_text c)
listed_short None c = omega arith
listed_short (Some k) c = from (nat_lt (length (listed_text (SameAs k))) (length (cert_text c))) refl
  where
    from : (b : Bool) → nat_lt (length (listed_text (SameAs k))) (length (cert_text c)) ≡ b → length (listed_text (cond b (SameAs k) (Whole c))) ≤ length (cert_text c)
    from true e = let p = less (length (listed_text (SameAs k))) (length (cert_text c)) e in omega (arith, p)
      where
        less : (a b : ℕ) → nat_lt a b ≡ true → a < b
        less a b e = grind (arith, nat_tests)
    from false e = omega arith

pub entry_size : (n : ℕ) (ls : List Line) (ms : List Line) → length (lines_text ((ForCondition n ∷ ls) ++ ms)) ≡ length (lines_text (ForCondition n ∷ [])) + length (lines_text ls) + length (lines_text ms)
entry_size n ls ms =
    let p : length (lines_text ((ForCondition n ∷ ls) ++ ms)) ≡ length (lines_text (ForCondition n ∷ ls) ++ lines_text ms) = ap length (lines_both (ForCondition n ∷ ls) ms) in
    let q : length (lines_text ((ForCondition n ∷ []) ++ ls)) ≡ length (lines_text (ForCondition n ∷ []) ++ lines_text ls) = ap length (lines_both (ForCondition n ∷ []) ls) in
    p ∙ length-append (lines_text (ForCondition n ∷ ls)) (lines_text ms) ∙ ap (λ k. k + length (lines_text ms)) (q ∙ length-append (lines_text (ForCondition n ∷ [])) (lines_text ls))

shorter : (es done : Entries) → length (lines_text (shared_lines done es)) ≤ length (lines_text (whole_lines es))
shorter [] done = omega arith
shorter (x ∷ es) done =
    let a = entry_size x.0 (listed_lines (listed_as (first_with (cert_text x.1) done) x.1)) (shared_lines (done ++ x ∷ []) es) in
    let b = entry_size x.0 (cert_lines x.1) (whole_lines es) in
    let c = listed_short (first_with (cert_text x.1) done) x.1 in
    let d = shorter es (done ++ x ∷ []) in
    omega (arith, a, b, c, d)

pub shared_is_short : (es : Entries) → length (shared_text es) ≤ length (file_text es)
shared_is_short es =
    let a = length-append (version_text Two) (lines_text (shared_lines [] es)) in
    let b = length-append (version_text One) (lines_text (whole_lines es)) in
    let c = shorter es [] in
    let d : length (version_text Two) ≡ length (version_text One) = refl in
    omega (arith, a, b, c, d)
