-- A printed text is read again.
use Rattle.std.proofs.Common.{◌≡◌, ℕ, ◌+◌, ◌<◌, ◌≤◌, List, [], ◌∷◌, ◌++◌, map, true, false, ◌&&◌, cond, Option, Some, None, Result, Ok, Err, refl, sym, ap, ◌∙◌, append_assoc, arith}
use Rattle.std.specs.Prelude.{nat_lt, nat_le, is_some, ⊤}
use Rattle.std.proofs.lemmas.Bool.Decides.{nat_tests}
use Rattle.std.specs.List.{list_all}
use Rattle.std.proofs.lemmas.Bool.{cond-true}
use Rattle.og_cert_text.specs.Tree.{Cert, Sum, Cut, Close, Branch, SplitOn, Certs, no_cert, cert, cert_list}
use Rattle.og_cert_text.specs.Lines.{Line, cert_count, most_depth, is_number, is_line}
use Rattle.og_cert_text.specs.Shallow.{cert_lines, certs_lines, is_shallow, are_shallow, is_well_formed}
use Rattle.og_cert_text.specs.Files.{Entries, certificate_of, with_entry}
use Rattle.og_cert_text.specs.Rising.{is_file, rise_from}
use Rattle.og_cert_text.specs.Text.{Version}
use Rattle.og_cert_text.specs.Listing.{Whole, listing_lines}
use Rattle.og_cert_text.proofs.Forms.{and_parts, le_from}
use Rattle.og_cert_read.specs.Reading.{Frame, AfterSum, AfterCut, First, Second, Part, Reading, between, within, plug, depth, LineFault, Twice, TooDeep, deeper, split_frames, goes, read_lines, nothing_read}
use Rattle.og_cert_read.proofs.Numbers.{apart}

-- these lines, and then others
abbrev pub before : List Line → List (Option Line) → List (Option Line)
before [] others = others
before (l ∷ ls) others = Some l ∷ before ls others

pub before_append : (xs ys : List Line) (others : List (Option Line)) → before (xs ++ ys) others ≡ before xs (before ys others)
before_append [] ys others = refl
before_append (x ∷ xs) ys others = ap (λ ls. Some x ∷ ls) (before_append xs ys others)

pub before_map : (xs : List Line) → before xs [] ≡ map Some xs
before_map [] = refl
before_map (x ∷ xs) = ap (λ ls. Some x ∷ ls) (before_map xs)

-- from here the lines give the same as from there
abbrev pub Same : Version → Reading → List (Option Line) → Reading → List (Option Line) → Type 0
Same v r ls q ms = (at : ℕ) (es : Entries) → ((later : ℕ) → read_lines v later q ms ≡ Ok es) → read_lines v at r ls ≡ Ok es

deep_ok : (fs : List Frame) (next : Reading) (at : ℕ) (f : Reading → Result Entries (LineFault × ℕ)) → nat_lt (depth fs) most_depth ≡ true → goes at (deeper fs next) f ≡ f next
deep_ok fs next at f e = ap (λ r. goes at r f) (cond-true (nat_lt (depth fs) most_depth) (Ok next) (Err TooDeep) e)

-- more certificates after those that were read
abbrev joined : List Cert → Certs → Certs
joined [] ds = ds
joined (c ∷ cs) ds = cert c (joined cs ds)

joined_end : (cs : List Cert) (c : Cert) (ds : Certs) → joined (cs ++ c ∷ []) ds ≡ joined cs (cert c ds)
joined_end [] c ds = refl
joined_end (d ∷ cs) c ds = ap (cert d) (joined_end cs c ds)

joined_none : (cs : List Cert) → cert_list cs ≡ joined cs no_cert
joined_none [] = refl
joined_none (d ∷ cs) = ap (cert d) (joined_none cs)

-- where the rest of a split is read
abbrev start : Entries → ℕ → List Frame → ℕ → List Cert → Certs → Reading
start done n fs i ds no_cert = plug done n (SplitOn i (cert_list ds)) fs
start done n fs i ds (cert c cs) = within done n (Part i (cert_count cs) ds ∷ fs)

split_start : (cs : Certs) (done : Entries) (n i : ℕ) (fs : List Frame) → split_frames done n fs i (cert_count cs) ≡ start done n fs i [] cs
split_start no_cert done n i fs = refl
split_start (cert c cs) done n i fs = refl

plug_start : (cs : Certs) (done : Entries) (n i : ℕ) (ds : List Cert) (c : Cert) (fs : List Frame) → plug done n c (Part i (cert_count cs) ds ∷ fs) ≡ start done n fs i (ds ++ c ∷ []) cs
plug_start no_cert done n i ds c fs = refl
plug_start (cert d cs) done n i ds c fs = refl

mutual
  pub cert_again : (c : Cert) (v : Version) (done : Entries) (n : ℕ) (fs : List Frame) (ms : List (Option Line)) → is_shallow (depth fs) c ≡ true → Same v (within done n fs) (before (cert_lines c) ms) (plug done n c fs) ms
  cert_again (Sum ts c) v done n fs ms s at es h = cert_again c v done n (AfterSum ts ∷ fs) ms s (at + 1) es h
  cert_again (Cut i d c) v done n fs ms s at es h = cert_again c v done n (AfterCut i d ∷ fs) ms s (at + 1) es h
  cert_again (Close ts) v done n fs ms s at es h = h (at + 1)
  cert_again (Branch f b c) v done n fs ms s at es h =
      let p = and_parts (nat_lt (depth fs) most_depth && is_shallow (depth fs + 1) b) (is_shallow (depth fs + 1) c) s in
      let q = and_parts (nat_lt (depth fs) most_depth) (is_shallow (depth fs + 1) b) p.0 in
      deep_ok fs (within done n (First f ∷ fs)) at (λ next. read_lines v (at + 1) next (before (cert_lines b ++ cert_lines c) ms)) q.0
      ∙ ap (read_lines v (at + 1) (within done n (First f ∷ fs))) (before_append (cert_lines b) (cert_lines c) ms)
      ∙ cert_again b v done n (First f ∷ fs) (before (cert_lines c) ms) q.1 (at + 1) es
      (λ later. cert_again c v done n (Second f b ∷ fs) ms p.1 later es h)
  cert_again (SplitOn i cs) v done n fs ms s at es h =
      let p = and_parts (nat_lt (depth fs) most_depth) (are_shallow (depth fs + 1) cs) s in
      deep_ok fs (split_frames done n fs i (cert_count cs)) at (λ next. read_lines v (at + 1) next (before (certs_lines cs) ms)) p.0
      ∙ ap (λ r. read_lines v (at + 1) r (before (certs_lines cs) ms)) (split_start cs done n i fs)
      ∙ certs_again cs v done n i [] fs ms p.1 (at + 1) es h

  certs_again : (cs : Certs) (v : Version) (done : Entries) (n i : ℕ) (ds : List Cert) (fs : List Frame) (ms : List (Option Line)) → are_shallow (depth fs + 1) cs ≡ true → Same v (start done n fs i ds cs) (before (certs_lines cs) ms) (plug done n (SplitOn i (joined ds cs)) fs) ms
  certs_again no_cert v done n i ds fs ms s at es h =
      ap (λ cs. read_lines v at (plug done n (SplitOn i cs) fs) ms) (joined_none ds) ∙ h at
  certs_again (cert c cs) v done n i ds fs ms s at es h =
      let p = and_parts (is_shallow (depth fs + 1) c) (are_shallow (depth fs + 1) cs) s in
      ap (read_lines v at (start done n fs i ds (cert c cs))) (before_append (cert_lines c) (certs_lines cs) ms)
      ∙ cert_again c v done n (Part i (cert_count cs) ds ∷ fs) (before (certs_lines cs) ms) p.0 at es
      (λ later.
      ap (λ r. read_lines v later r (before (certs_lines cs) ms)) (plug_start cs done n i ds c fs)
      ∙ certs_again cs v done n i (ds ++ c ∷ []) fs ms p.1 later es
      (λ last. ap (λ all. read_lines v last (plug done n (SplitOn i all) fs) ms) (joined_end ds c cs) ∙ h last))

-- ---- entries by rising numbers

-- all are below
abbrev pub below : ℕ → Entries → Type 0
below n [] = ⊤
below n (e ∷ es) = (e.0 < n) × below n es

pub below_none : (n : ℕ) (es : Entries) → below n es → certificate_of n es ≡ None
below_none n [] h = refl
below_none n (e ∷ es) h = ap (λ b. cond b (Some e.1) (certificate_of n es)) (apart n e.0 (λ k. omega (arith, k, h.0))) ∙ below_none n es h.1

not_lt : (a b : ℕ) → b ≤ a → nat_lt a b ≡ false
not_lt a b h = grind (arith, nat_tests)

pub below_end : (n : ℕ) (c : Cert) (es : Entries) → below n es → with_entry n c es ≡ es ++ (n, c) ∷ []
below_end n c [] h = refl
below_end n c (e ∷ es) h =
    ap (λ b. cond b ((n, c) ∷ e ∷ es) (e ∷ with_entry n c es)) (not_lt n e.0 (omega (arith, h.0))) ∙ ap (λ xs. e ∷ xs) (below_end n c es h.1)

pub below_more : (n m : ℕ) (c : Cert) (es : Entries) → n < m → below n es → below m (es ++ (n, c) ∷ [])
below_more n m c [] lt h = (lt, tt)
below_more n m c (e ∷ es) lt h = (omega (arith, lt, h.0), below_more n m c es lt h.1)

pub below_up : (n m : ℕ) (es : Entries) → n ≤ m → below n es → below m es
below_up n m [] le h = tt
below_up n m (e ∷ es) le h = (omega (arith, le, h.0), below_up n m es le h.1)

abbrev pub whole_lines : Entries → List Line
whole_lines es = listing_lines (map (λ e. (e.0, Whole e.1)) es)

entries_again : (es done all : Entries) (v : Version) (low : ℕ) → below low done → rise_from low es ≡ true → list_all (λ e. is_number e.0 && is_well_formed e.1) es ≡ true → done ++ es ≡ all
    → (at : ℕ) → read_lines v at (between done) (before (whole_lines es) []) ≡ Ok all
entries_again [] done all v low b rise good e at = ap Ok (sym (none_past done) ∙ e)
  where
    none_past : (xs : Entries) → xs ++ [] ≡ xs
    none_past [] = refl
    none_past (y ∷ ys) = ap (λ zs. y ∷ zs) (none_past ys)
entries_again (x ∷ es) done all v low b rise good e at =
    let r = and_parts (nat_le low x.0) (rise_from (x.0 + 1) es) rise in
    let g = and_parts (is_number x.0 && is_well_formed x.1) (list_all (λ e. is_number e.0 && is_well_formed e.1) es) good in
    let w = and_parts (is_number x.0) (is_well_formed x.1) g.0 in
    let s = and_parts (is_shallow 0 x.1) (list_all is_line (cert_lines x.1)) w.1 in
    let up = below_up low x.0 done (le_from low x.0 r.0) b in
    let end = below_end x.0 x.1 done up in
    ap (λ o. goes at (cond (is_some o) (Err Twice) (Ok (within done x.0 []))) (λ next. read_lines v (at + 1) next (before (cert_lines x.1 ++ whole_lines es) []))) (below_none x.0 done up)
    ∙ ap (read_lines v (at + 1) (within done x.0 [])) (before_append (cert_lines x.1) (whole_lines es) [])
    ∙ cert_again x.1 v done x.0 [] (before (whole_lines es) []) s.0 (at + 1) all
    (λ later. ap (λ d. read_lines v later (between d) (before (whole_lines es) [])) end
    ∙ entries_again es (done ++ (x.0, x.1) ∷ []) all v (x.0 + 1) (below_more x.0 (x.0 + 1) x.1 done (omega arith) up) r.1 g.1 (append_assoc done ((x.0, x.1) ∷ []) es ∙ e) later)

-- the lines of a file are read as the file
pub printed_is_read : (v : Version) (es : Entries) → is_file es ≡ true → read_lines v 2 nothing_read (map Some (whole_lines es)) ≡ Ok es
printed_is_read v es h =
    let p = and_parts (rise_from 0 es) (list_all (λ e. is_number e.0 && is_well_formed e.1) es) h in
    ap (read_lines v 2 nothing_read) (sym (before_map (whole_lines es))) ∙ entries_again es [] es v 0 tt p.0 p.1 refl 2
