-- A text that gives a file has room for version 2's text of it.
use Rattle.std.proofs.Common.{◌≡◌, ℕ, zero, suc, ◌+◌, ◌<◌, ◌≤◌, inl, inr, List, [], ◌∷◌, ◌++◌, length, refl, ap, sym, ◌∙◌, subst, true, false, cond, Bool, Option, Some, None, Result, Ok, Err, length-append, arith}
use Rattle.std.specs.Prelude.{nat_lt, nat_le, is_some, ◌==◌, ⊤}
use Rattle.std.specs.Str.{bytes_eq}
use Rattle.std.specs.Cmp.Lexicographic.{bytes_decides}
use Rattle.og_cert_text.specs.Tree.{Cert, Sum, Cut, Close, Branch, SplitOn, cert_list}
use Rattle.og_cert_text.specs.Lines.{Line, ForCondition, SameLine, SumLine, CutLine, BranchLine, SplitLine, CloseLine, line_text, is_line, cert_count, most_depth}
use Rattle.og_cert_text.specs.Shallow.{cert_lines, certs_lines}
use Rattle.og_cert_text.specs.Files.{Entries, certificate_of, with_entry}
use Rattle.og_cert_text.specs.Rising.{rise_from}
use Rattle.og_cert_text.specs.Text.{Version, One, Two, version_text}
use Rattle.og_cert_text.specs.Listing.{lines_text}
use Rattle.og_cert_text.proofs.Forms.{and_parts, le_from, le_true, both_true}
use Rattle.og_cert_text.proofs.Writing.{lines_both}
use Rattle.og_cert_text.proofs.Plains.{count_list}
use Rattle.og_cert_read.specs.Text.{pieces, with_byte, EachSays}
use Rattle.og_cert_read.specs.Reading.{Frame, AfterSum, AfterCut, First, Second, Part, Reading, Place, Between, Within, within, between, plug, depth, deeper, split_frames, same_as, or_bad, LineFault, BadLine, Twice, TooDeep, goes, line_at, line_within, line_between, read_lines}
use Rattle.og_cert_read.specs.Read.{Gives}
use Rattle.og_cert_read.specs.Shared.{cert_text, first_with, shared_text}
use Rattle.og_cert_read.proofs.Numbers.{equal, number_parts}
use Rattle.og_cert_read.proofs.Sharing.{shared_lines}
use Rattle.og_cert_read.proofs.Shorter.{lt_from, not_lt_from, head_size, same_size, whole_size, past_size, AreSmall, Affords, none_some, fresh_parts, put_in}

-- ---- entries

first_at : (es : Entries) (k low : ℕ) (c : Cert) → rise_from low es ≡ true → certificate_of k es ≡ Some c → (m : ℕ) × (first_with (cert_text c) es ≡ Some m) × (m ≤ k) × (low ≤ k)
first_at [] k low c rise h = cc
first_at (e ∷ es) k low c rise h =
    let r = and_parts (nat_le low e.0) (rise_from (e.0 + 1) es) rise in
    from (k == e.0) refl h (le_from low e.0 r.0) (first_at es k (e.0 + 1) c r.1)
  where
    some_cert : (a b : Cert) → ◌≡◌ {A = Option Cert} (Some a) (Some b) → a ≡ b
    some_cert a b p = cc

    from : (b : Bool) → (k == e.0) ≡ b → cond b (Some e.1) (certificate_of k es) ≡ Some c → low ≤ e.0
        → (certificate_of k es ≡ Some c → (m : ℕ) × (first_with (cert_text c) es ≡ Some m) × (m ≤ k) × (e.0 + 1 ≤ k)) → (m : ℕ) × (first_with (cert_text c) (e ∷ es) ≡ Some m) × (m ≤ k) × (low ≤ k)
    from true q h le later =
        let n = equal k e.0 q in
        let is = (bytes_decides (cert_text c) (cert_text e.1)).1 (ap cert_text (sym (some_cert e.1 c h))) in
        (e.0, ap (λ b. cond b (Some e.0) (first_with (cert_text c) es)) is, omega (arith, n), omega (arith, n, le))
    from false q h le later = let f = later h in other (bytes_eq (cert_text c) (cert_text e.1)) f.0 f.1 f.2 f.3
      where
        other : (b : Bool) (m : ℕ) → first_with (cert_text c) es ≡ Some m → m ≤ k → e.0 + 1 ≤ k → (m : ℕ) × (cond b (Some e.0) (first_with (cert_text c) es) ≡ Some m) × (m ≤ k) × (low ≤ k)
        other true m is less up = (e.0, refl, omega (arith, up), omega (arith, up, le))
        other false m is less up = (m, is, less, omega (arith, up, le))

rise_with : (es : Entries) (n low : ℕ) (c : Cert) → rise_from low es ≡ true → low ≤ n → certificate_of n es ≡ None → rise_from low (with_entry n c es) ≡ true
rise_with [] n low c rise le fresh = both_true _ _ (le_true low n le) refl
rise_with (e ∷ es) n low c rise le fresh =
    let r = and_parts (nat_le low e.0) (rise_from (e.0 + 1) es) rise in
    let f = fresh_parts n e es fresh in
    from (nat_lt n e.0) refl (λ lt. rise_with es n (e.0 + 1) c r.1 (omega (arith, lt)) f.1) f.0 r.0 r.1
  where
    from : (b : Bool) → nat_lt n e.0 ≡ b → (e.0 < n → rise_from (e.0 + 1) (with_entry n c es) ≡ true) → (n ≡ e.0 → ⊥) → nat_le low e.0 ≡ true → rise_from (e.0 + 1) es ≡ true
        → rise_from low (cond b ((n, c) ∷ e ∷ es) (e ∷ with_entry n c es)) ≡ true
    from true h later off up rest = let lt = lt_from n e.0 h in both_true _ _ (le_true low n le) (both_true _ _ (le_true (n + 1) e.0 (omega (arith, lt))) rest)
    from false h later off up rest = let ge = not_lt_from n e.0 h in both_true _ _ up (later (omega (arith, ge, off)))

small_with : (es : Entries) (n : ℕ) (c : Cert) → AreSmall es → n ≤ 999999999 → AreSmall (with_entry n c es)
small_with [] n c few small = (small, tt)
small_with (e ∷ es) n c few small = from (nat_lt n e.0) (small_with es n c few.1 small)
  where
    from : (b : Bool) → AreSmall (with_entry n c es) → AreSmall (cond b ((n, c) ∷ e ∷ es) (e ∷ with_entry n c es))
    from true later = (small, few)
    from false later = (few.0, later)

-- ---- how much of a text is read

abbrev line_size : Line → ℕ
line_size l = length (line_text l ++ 10 ∷ [])

lines_size : (l : Line) (ls : List Line) → length (lines_text (l ∷ ls)) ≡ line_size l + length (lines_text ls)
lines_size l ls = length-append (line_text l ++ 10 ∷ []) (lines_text ls)

lines_sizes : (ls ms : List Line) → length (lines_text (ls ++ ms)) ≡ length (lines_text ls) + length (lines_text ms)
lines_sizes ls ms = ap length (lines_both ls ms) ∙ length-append (lines_text ls) (lines_text ms)

head_is : (n : ℕ) → head_size n ≡ line_size (ForCondition n)
head_is n = let p = lines_size (ForCondition n) [] in omega (arith, p)

same_is : (k : ℕ) → same_size k ≡ line_size (SameLine k)
same_is k = let p = lines_size (SameLine k) [] in omega (arith, p)

abbrev certs_size : List Cert → ℕ
certs_size [] = 0
certs_size (c ∷ cs) = whole_size c + certs_size cs

certs_is : (cs : List Cert) → length (lines_text (certs_lines (cert_list cs))) ≡ certs_size cs
certs_is [] = refl
certs_is (c ∷ cs) = let p = lines_sizes (cert_lines c) (certs_lines (cert_list cs)) in let q = certs_is cs in omega (arith, p, q)

certs_end : (cs : List Cert) (c : Cert) → certs_size (cs ++ c ∷ []) ≡ certs_size cs + whole_size c
certs_end [] c = omega arith
certs_end (d ∷ cs) c = let p = certs_end cs c in omega (arith, p)

split_is : (i k : ℕ) (cs : List Cert) → length cs ≡ k → whole_size (SplitOn i (cert_list cs)) ≡ line_size (SplitLine i k) + certs_size cs
split_is i k cs e =
    let p = lines_size (SplitLine i (cert_count (cert_list cs))) (certs_lines (cert_list cs)) in
    let q = certs_is cs in
    let r : line_size (SplitLine i (cert_count (cert_list cs))) ≡ line_size (SplitLine i k) = ap (λ n. line_size (SplitLine i n)) (count_list cs ∙ e) in
    omega (arith, p, q, r)

abbrev frames_size : List Frame → ℕ
frames_size [] = 0
frames_size (AfterSum ts ∷ fs) = line_size (SumLine ts) + frames_size fs
frames_size (AfterCut i d ∷ fs) = line_size (CutLine i d) + frames_size fs
frames_size (First f ∷ fs) = line_size (BranchLine f) + frames_size fs
frames_size (Second f c ∷ fs) = line_size (BranchLine f) + whole_size c + frames_size fs
frames_size (Part i k cs ∷ fs) = line_size (SplitLine i (length cs + k + 1)) + certs_size cs + frames_size fs

abbrev place_size : Place → ℕ
place_size Between = 0
place_size (Within n fs) = head_size n + frames_size fs

abbrev reading_size : Reading → ℕ
reading_size r = past_size [] r.done + place_size r.place

abbrev IsHeldAt : Entries → Place → Type 0
IsHeldAt done Between = ⊤
IsHeldAt done (Within n fs) = (n ≤ 999999999) × (certificate_of n done ≡ None)

abbrev IsHeld : Reading → Type 0
IsHeld r = (rise_from 0 r.done ≡ true) × AreSmall r.done × IsHeldAt r.done r.place

record Held (done : Entries) (n : ℕ) : Type 0 where
  pub rise : rise_from 0 done ≡ true
  pub few : AreSmall done
  pub small : n ≤ 999999999
  pub fresh : certificate_of n done ≡ None

abbrev IsWithin : ℕ → Reading → Type 0
IsWithin size r = IsHeld r × (reading_size r ≤ size)

entered : (done : Entries) (n w : ℕ) (c : Cert) → Held done n → Affords w c [] done → IsWithin (past_size [] done + head_size n + w) (between (with_entry n c done))
entered done n w c h pays =
    let p = put_in done [] w n 0 c h.rise h.few (λ t j k. absurd (none_some None j refl k)) h.small (omega arith) h.fresh pays in
    ((rise_with done n 0 c h.rise (omega arith) h.fresh, small_with done n c h.few h.small, tt), omega (arith, p))

opened : (done : Entries) (n size : ℕ) (fs : List Frame) → Held done n → past_size [] done + head_size n + frames_size fs ≤ size → IsWithin size (within done n fs)
opened done n size fs h le = ((h.rise, h.few, (h.small, h.fresh)), omega (arith, le))

more : (a b : ℕ) (r : Reading) → a ≤ b → IsWithin a r → IsWithin b r
more a b r le h = let p = h.1 in (h.0, omega (arith, le, p))

plugged : (fs : List Frame) (done : Entries) (n : ℕ) (c : Cert) → Held done n → IsWithin (past_size [] done + head_size n + whole_size c + frames_size fs) (plug done n c fs)
plugged [] done n c h = more (past_size [] done + head_size n + whole_size c) _ (plug done n c []) (omega arith) (entered done n (whole_size c) c h (inl (omega arith)))
plugged (AfterSum ts ∷ fs) done n c h =
    let p = lines_size (SumLine ts) (cert_lines c) in
    more (past_size [] done + head_size n + whole_size (Sum ts c) + frames_size fs) _ (plug done n c (AfterSum ts ∷ fs)) (omega (arith, p)) (plugged fs done n (Sum ts c) h)
plugged (AfterCut i d ∷ fs) done n c h =
    let p = lines_size (CutLine i d) (cert_lines c) in
    more (past_size [] done + head_size n + whole_size (Cut i d c) + frames_size fs) _ (plug done n c (AfterCut i d ∷ fs)) (omega (arith, p)) (plugged fs done n (Cut i d c) h)
plugged (First f ∷ fs) done n c h = opened done n _ (Second f c ∷ fs) h (omega arith)
plugged (Second f b ∷ fs) done n c h =
    let p = lines_size (BranchLine f) (cert_lines b ++ cert_lines c) in
    let q = lines_sizes (cert_lines b) (cert_lines c) in
    more (past_size [] done + head_size n + whole_size (Branch f b c) + frames_size fs) _ (plug done n c (Second f b ∷ fs)) (omega (arith, p, q)) (plugged fs done n (Branch f b c) h)
plugged (Part i zero cs ∷ fs) done n c h =
    let all = cs ++ c ∷ [] in
    let len = length-append {A = Cert} cs (c ∷ []) in
    let p = split_is i (length cs + 0 + 1) all (len ∙ omega arith) in
    let q = certs_end cs c in
    more (past_size [] done + head_size n + whole_size (SplitOn i (cert_list all)) + frames_size fs) _ (plug done n c (Part i zero cs ∷ fs)) (omega (arith, p, q)) (plugged fs done n (SplitOn i (cert_list all)) h)
plugged (Part i (suc k) cs ∷ fs) done n c h =
    let len = length-append {A = Cert} cs (c ∷ []) in
    let e : length (cs ++ c ∷ []) + k + 1 ≡ length cs + suc k + 1 = omega (arith, len) in
    let p : line_size (SplitLine i (length (cs ++ c ∷ []) + k + 1)) ≡ line_size (SplitLine i (length cs + suc k + 1)) = ap (λ m. line_size (SplitLine i m)) e in
    let q = certs_end cs c in
    opened done n _ (Part i k (cs ++ c ∷ []) ∷ fs) h (omega (arith, p, q))

-- ---- one line

abbrev Answer : Type 0
Answer = Result Reading LineFault

ok_reading : (a b : Reading) → ◌≡◌ {A = Answer} (Ok a) (Ok b) → a ≡ b
ok_reading a b e = cc

no_reading : (e : LineFault) (r : Reading) → ◌≡◌ {A = Answer} (Err e) (Ok r) → ⊥
no_reading e r h = cc

is_within : (size : ℕ) (a r : Reading) → IsWithin size a → ◌≡◌ {A = Answer} (Ok a) (Ok r) → IsWithin size r
is_within size a r h e = subst (IsWithin size) (ok_reading a r e) h

deeper_within : (size : ℕ) (fs : List Frame) (a r : Reading) → IsWithin size a → deeper fs a ≡ Ok r → IsWithin size r
deeper_within size fs a r h e = from (nat_lt (depth fs) most_depth) e
  where
    from : (b : Bool) → ◌≡◌ {A = Answer} (cond b (Ok a) (Err TooDeep)) (Ok r) → IsWithin size r
    from true e = is_within size a r h e
    from false e = absurd (no_reading TooDeep r e)

same_within : (v : Version) (done : Entries) (n k : ℕ) (fs : List Frame) (r : Reading) → Held done n → k ≤ 999999999 → same_as v done n fs k ≡ Ok r → IsWithin (past_size [] done + (head_size n + frames_size fs) + line_size (SameLine k)) r
same_within One done n k fs r h small e = absurd (no_reading BadLine r e)
same_within Two done n k (f ∷ fs) r h small e = absurd (no_reading BadLine r e)
same_within Two done n k [] r h small e = from (certificate_of k done) refl e
  where
    from : (o : Option Cert) → certificate_of k done ≡ o → or_bad o (λ c. between (with_entry n c done)) ≡ Ok r → IsWithin (past_size [] done + (head_size n + frames_size []) + line_size (SameLine k)) r
    from None is e = absurd (no_reading BadLine r e)
    from (Some c) is e =
        let f = first_at done k 0 c h.rise is in
        let s = same_is k in
        is_within _ (between (with_entry n c done)) r
        (more (past_size [] done + head_size n + same_size k) _ (between (with_entry n c done)) (omega (arith, s)) (entered done n (same_size k) c h (inr (k, omega arith, small, inr (f.0, f.1, f.2))))) e

split_within : (done : Entries) (n i k : ℕ) (fs : List Frame) → Held done n → IsWithin (past_size [] done + (head_size n + frames_size fs) + line_size (SplitLine i k)) (split_frames done n fs i k)
split_within done n i zero fs h =
    let p = split_is i 0 [] refl in
    more (past_size [] done + head_size n + whole_size (SplitOn i (cert_list [])) + frames_size fs) _ (split_frames done n fs i zero) (omega (arith, p)) (plugged fs done n (SplitOn i (cert_list [])) h)
split_within done n i (suc k) fs h =
    let e : length {A = Cert} [] + k + 1 ≡ suc k = omega arith in
    let p : line_size (SplitLine i (length {A = Cert} [] + k + 1)) ≡ line_size (SplitLine i (suc k)) = ap (λ m. line_size (SplitLine i m)) e in
    opened done n _ (Part i k [] ∷ fs) h (omega (arith, p))

line_step : (v : Version) (done : Entries) (n : ℕ) (fs : List Frame) (line : Line) (r : Reading) → Held done n → is_line line ≡ true → line_within v done n fs line ≡ Ok r → IsWithin (past_size [] done + (head_size n + frames_size fs) + line_size line) r
line_step v done n fs (ForCondition m) r h good e = absurd (no_reading BadLine r e)
line_step v done n fs (SameLine k) r h good e = same_within v done n k fs r h (number_parts k good).1 e
line_step v done n fs (SumLine ts) r h good e = is_within _ (within done n (AfterSum ts ∷ fs)) r (opened done n _ (AfterSum ts ∷ fs) h (omega arith)) e
line_step v done n fs (CutLine i d) r h good e = is_within _ (within done n (AfterCut i d ∷ fs)) r (opened done n _ (AfterCut i d ∷ fs) h (omega arith)) e
line_step v done n fs (BranchLine f) r h good e = deeper_within _ fs (within done n (First f ∷ fs)) r (opened done n _ (First f ∷ fs) h (omega arith)) e
line_step v done n fs (SplitLine i k) r h good e = deeper_within _ fs (split_frames done n fs i k) r (split_within done n i k fs h) e
line_step v done n fs (CloseLine ts) r h good e =
    let p = lines_size (CloseLine ts) [] in
    is_within _ (plug done n (Close ts) fs) r (more (past_size [] done + head_size n + whole_size (Close ts) + frames_size fs) _ (plug done n (Close ts) fs) (omega (arith, p)) (plugged fs done n (Close ts) h)) e

head_step : (done : Entries) (line : Line) (r : Reading) → rise_from 0 done ≡ true → AreSmall done → is_line line ≡ true → line_between done line ≡ Ok r → IsWithin (past_size [] done + 0 + line_size line) r
head_step done (ForCondition n) r rise few good e = from (certificate_of n done) refl e
  where
    from : (o : Option Cert) → certificate_of n done ≡ o → ◌≡◌ {A = Answer} (cond (is_some o) (Err Twice) (Ok (within done n []))) (Ok r) → IsWithin (past_size [] done + 0 + line_size (ForCondition n)) r
    from (Some c) is e = absurd (no_reading Twice r e)
    from None is e =
        let p = head_is n in
        is_within _ (within done n []) r (opened done n _ [] (record { rise = rise; few = few; small = (number_parts n good).1; fresh = is }) (omega (arith, p))) e
head_step done (SameLine k) r rise few good e = absurd (no_reading BadLine r e)
head_step done (SumLine ts) r rise few good e = absurd (no_reading BadLine r e)
head_step done (CutLine i d) r rise few good e = absurd (no_reading BadLine r e)
head_step done (BranchLine f) r rise few good e = absurd (no_reading BadLine r e)
head_step done (SplitLine i k) r rise few good e = absurd (no_reading BadLine r e)
head_step done (CloseLine ts) r rise few good e = absurd (no_reading BadLine r e)

any_step : (v : Version) (done : Entries) (place : Place) (line : Line) (r : Reading) → rise_from 0 done ≡ true → AreSmall done → IsHeldAt done place → is_line line ≡ true → line_at v done place line ≡ Ok r → IsWithin (past_size [] done + place_size place + line_size line) r
any_step v done Between line r rise few h good e = head_step done line r rise few good e
any_step v done (Within n fs) line r rise few h good e = line_step v done n fs line r (record { rise = rise; few = few; small = h.0; fresh = h.1 }) good e

-- ---- all lines

abbrev sizes : List (Option Line) → ℕ
sizes [] = 0
sizes (None ∷ ls) = sizes ls
sizes (Some l ∷ ls) = line_size l + sizes ls

abbrev AllGood : List (Option Line) → Type 0
AllGood [] = ⊤
AllGood (None ∷ ls) = AllGood ls
AllGood (Some l ∷ ls) = (is_line l ≡ true) × AllGood ls

abbrev Final : Type 0
Final = Result Entries (LineFault × ℕ)

ok_entries : (a b : Entries) → ◌≡◌ {A = Final} (Ok a) (Ok b) → a ≡ b
ok_entries a b e = cc

no_entries : (e : LineFault × ℕ) (es : Entries) → ◌≡◌ {A = Final} (Err e) (Ok es) → ⊥
no_entries e es h = cc

total : (lines : List (Option Line)) (v : Version) (at : ℕ) (done : Entries) (place : Place) (es : Entries) → rise_from 0 done ≡ true → AreSmall done → IsHeldAt done place → AllGood lines
    → read_lines v at (record { done = done; place = place }) lines ≡ Ok es → past_size [] es ≤ past_size [] done + place_size place + sizes lines
total [] v at done Between es rise few h good e = let p : past_size [] done ≡ past_size [] es = ap (past_size []) (ok_entries done es e) in omega (arith, p)
total [] v at done (Within n fs) es rise few h good e = absurd (no_entries (BadLine, at) es e)
total (None ∷ lines) v at done place es rise few h good e = absurd (no_entries (BadLine, at) es e)
total (Some line ∷ lines) v at done place es rise few h good e =
    from (line_at v done place line) refl e (λ r s. total lines v (at + 1) r.done r.place es s.0.0 s.0.1 s.0.2 good.1)
  where
    from : (a : Answer) → line_at v done place line ≡ a → goes at a (λ next. read_lines v (at + 1) next lines) ≡ Ok es
        → ((r : Reading) → IsWithin (past_size [] done + place_size place + line_size line) r → read_lines v (at + 1) r lines ≡ Ok es → past_size [] es ≤ reading_size r + sizes lines)
        → past_size [] es ≤ past_size [] done + place_size place + (line_size line + sizes lines)
    from (Err f) is e later = absurd (no_entries (f, at) es e)
    from (Ok r) is e later =
        let s = any_step v done place line r rise few h good.0 is in
        let p = s.1 in
        let q = later r s e in
        omega (arith, p, q)

-- ---- the text

abbrev piece_sizes : List (Option (List ℕ)) → ℕ
piece_sizes [] = 0
piece_sizes (None ∷ ps) = piece_sizes ps
piece_sizes (Some b ∷ ps) = length b + 1 + piece_sizes ps

pieces_fit : (text : List ℕ) → piece_sizes (pieces text) ≤ length text
pieces_fit [] = omega arith
pieces_fit (b ∷ bs) = from (b == 10) (pieces_fit bs)
  where
    one_more : (ps : List (Option (List ℕ))) → piece_sizes ps ≤ length bs → piece_sizes (with_byte b ps) ≤ length (b ∷ bs)
    one_more [] h = omega arith
    one_more (None ∷ ps) h = omega (arith, h)
    one_more (Some l ∷ ps) h = omega (arith, h)

    from : (t : Bool) → piece_sizes (pieces bs) ≤ length bs → piece_sizes (cond t (Some [] ∷ pieces bs) (with_byte b (pieces bs))) ≤ length (b ∷ bs)
    from true h = omega (arith, h)
    from false h = one_more (pieces bs) h

said_fit : (ps : List (Option (List ℕ))) (ls : List (Option Line)) → EachSays ps ls → AllGood ls × (sizes ls ≤ piece_sizes ps)
said_fit [] [] h = (tt, omega arith)
said_fit [] (l ∷ ls) h = absurd h
said_fit (p ∷ ps) [] h = absurd h
said_fit (None ∷ ps) (None ∷ ls) h = said_fit ps ls h.1
said_fit (None ∷ ps) (Some l ∷ ls) h = absurd h.0
said_fit (Some b ∷ ps) (None ∷ ls) h = let r = said_fit ps ls h.1 in let p = r.1 in (r.0, omega (arith, p))
said_fit (Some b ∷ ps) (Some l ∷ ls) h =
    let r = said_fit ps ls h.1 in
    let p = r.1 in
    let q : length b ≡ length (line_text l) = ap length h.0.0 in
    let s = length-append (line_text l) (10 ∷ []) in
    ((h.0.1, r.0), omega (arith, p, q, s))

version_size : (v : Version) → length (version_text v) ≡ 10
version_size One = refl
version_size Two = refl

pub shared_is_shortest : (text : List ℕ) (es : Entries) → Gives text (Ok es) → length (shared_text es) ≤ length text
shared_is_shortest text es g =
    let f = said_fit (pieces g.2) g.4 g.5 in
    let fits = f.1 in
    let p = total g.4 g.1 2 [] Between es refl tt tt f.0 g.6 in
    let q = pieces_fit g.2 in
    let whole : length text ≡ length (version_text g.1 ++ g.2) = ap length g.3 in
    let a = length-append (version_text g.1) g.2 in
    let b = length-append (version_text Two) (lines_text (shared_lines [] es)) in
    let c = version_size g.1 in
    let d = version_size Two in
    omega (arith, fits, p, q, whole, a, b, c, d)
