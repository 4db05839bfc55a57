-- Version 2's text of a file is no longer than any text that gives the file.
use Rattle.std.proofs.Common.{◌≡◌, ℕ, suc, ◌+◌, ◌*◌, ◌/◌, ◌%◌, ◌^◌, ◌<◌, ◌≤◌, ◌⊎◌, inl, inr, List, [], ◌∷◌, ◌++◌, length, refl, ap, sym, ◌∙◌, subst, true, false, cond, Bool, Option, Some, None, length-append, arith}
use Rattle.std.specs.Prelude.{nat_lt, nat_le, ◌==◌, ⊤}
use Rattle.std.specs.Fmt.{decimal}
use Rattle.std.specs.Str.{bytes_eq}
use Rattle.std.specs.Cmp.Lexicographic.{bytes_decides, nat_list_eq_equiv}
use Rattle.std.proofs.lemmas.Bool.Decides.{nat_tests}
use Rattle.std.proofs.Math.Nat.{pow-suc}
use Rattle.std.proofs.lemmas.Fmt.{decimal_by_steps_wide, length-decimal-le_wide, decimal_nonempty}
use Rattle.og_cert_text.specs.Tree.{Cert}
use Rattle.og_cert_text.specs.Lines.{ForCondition}
use Rattle.og_cert_text.specs.Files.{Entries, certificate_of, with_entry}
use Rattle.og_cert_text.specs.Rising.{rise_from}
use Rattle.og_cert_text.specs.Listing.{Whole, SameAs, listed_lines, lines_text}
use Rattle.og_cert_text.proofs.Forms.{and_parts, le_from, le_true, both_true}
use Rattle.og_cert_read.specs.Shared.{listed_text, cert_text, first_with, listed_as}
use Rattle.og_cert_read.specs.Firsts.{or_this}
use Rattle.og_cert_read.proofs.Split.{same}
use Rattle.og_cert_read.proofs.Firsts.{first_end}
use Rattle.og_cert_read.proofs.Sharing.{shared_lines, entry_size}

-- ---- numbers that are not greater are not written longer

times_ten : (n p q : ℕ) → n / 10 < p → q ≡ p * 10 → n < q
times_ten n p q less e = omega (arith, less, e)

below_power : (n : ℕ) → n < 10 ^ 64 → n < 10 ^ length (decimal n)
below_power = decimal_by_steps_wide (λ n ds. n < 10 ^ length ds) one more
  where
    one : (n : ℕ) → n < 10 → n < 10 ^ length ((48 + n) ∷ [])
    one n h = h

    more : (n : ℕ) (ds : List ℕ) → 10 ≤ n → n / 10 < 10 ^ length ds → n < 10 ^ length (ds ++ ((48 + n % 10) ∷ []))
    more n ds h less =
        let e : length (ds ++ ((48 + n % 10) ∷ [])) ≡ suc (length ds) = length-append ds ((48 + n % 10) ∷ []) ∙ omega arith in
        subst (λ k. n < 10 ^ k) (sym e) (times_ten n (10 ^ length ds) (10 ^ suc (length ds)) less (pow-suc 10 (length ds)))

longer : (a b : ℕ) → a ≤ b → b ≤ 999999999 → length (decimal a) ≤ length (decimal b)
longer a b le small =
    let p = below_power b (omega (arith, small)) in
    length-decimal-le_wide (length (decimal b)) a (decimal_nonempty b (omega (arith, small))) (omega (arith, le, p)) (omega (arith, le, small))

-- ---- the listed lines

abbrev pub head_size : ℕ → ℕ
head_size n = length (lines_text (ForCondition n ∷ []))

abbrev pub same_size : ℕ → ℕ
same_size k = length (listed_text (SameAs k))

abbrev pub whole_size : Cert → ℕ
whole_size c = length (cert_text c)

abbrev listed_size : Option ℕ → Cert → ℕ
listed_size o c = length (listed_text (listed_as o c))

same_longer : (a b : ℕ) → a ≤ b → b ≤ 999999999 → same_size a ≤ same_size b
same_longer a b le small =
    let p = longer a b le small in
    let x = length-append (decimal a) (10 ∷ []) in
    let y = length-append (decimal b) (10 ∷ []) in
    let u = length-append (decimal a ++ 10 ∷ []) [] in
    let v = length-append (decimal b ++ 10 ∷ []) [] in
    omega (arith, p, x, y, u, v)

-- the shorter one of the two
record IsListed (k : ℕ) (c : Cert) : Type 0 where
  pub same : listed_size (Some k) c ≤ same_size k
  pub whole : listed_size (Some k) c ≤ whole_size c
  pub one : (listed_size (Some k) c ≡ same_size k) ⊎ (listed_size (Some k) c ≡ whole_size c)

pub lt_from : (a b : ℕ) → nat_lt a b ≡ true → a < b
lt_from a b e = grind (arith, nat_tests)

pub not_lt_from : (a b : ℕ) → nat_lt a b ≡ false → b ≤ a
not_lt_from a b e = grind (arith, nat_tests)

is_listed : (k : ℕ) (c : Cert) → IsListed k c
is_listed k c = from (nat_lt (same_size k) (whole_size c)) refl
  where
    from : (b : Bool) → nat_lt (same_size k) (whole_size c) ≡ b → IsListed k c
    from true e =
        let p = lt_from (same_size k) (whole_size c) e in
        let s : listed_size (Some k) c ≡ same_size k = ap (λ t. length (listed_text (cond t (SameAs k) (Whole c)))) e in
        record { same = omega (arith, s); whole = omega (arith, s, p); one = inl s }
    from false e =
        let p = not_lt_from (same_size k) (whole_size c) e in
        let s : listed_size (Some k) c ≡ whole_size c = ap (λ t. length (listed_text (cond t (SameAs k) (Whole c)))) e in
        record { same = omega (arith, s, p); whole = omega (arith, s); one = inr s }

listed_longer : (a b : ℕ) (c : Cert) → a ≤ b → b ≤ 999999999 → listed_size (Some a) c ≤ listed_size (Some b) c
listed_longer a b c le small = from (is_listed b c).one
  where
    from : (listed_size (Some b) c ≡ same_size b) ⊎ (listed_size (Some b) c ≡ whole_size c) → listed_size (Some a) c ≤ listed_size (Some b) c
    from (inl e) = let p = (is_listed a c).same in let q = same_longer a b le small in omega (arith, p, q, e)
    from (inr e) = let p = (is_listed a c).whole in omega (arith, p, e)

-- ---- the same entries after others

abbrev Below : Option ℕ → Option ℕ → Type 0
Below None None = ⊤
Below None (Some b) = ⊥
Below (Some a) None = ⊥
Below (Some a) (Some b) = (a ≤ b) × (b ≤ 999999999)

abbrev IsBelow : Entries → Entries → Type 0
IsBelow ps qs = (t : List ℕ) → Below (first_with t ps) (first_with t qs)

listed_below : (o q : Option ℕ) (c : Cert) → Below o q → listed_size o c ≤ listed_size q c
listed_below None None c h = omega arith
listed_below None (Some b) c h = absurd h
listed_below (Some a) None c h = absurd h
listed_below (Some a) (Some b) c h = listed_longer a b c h.0 h.1

or_below : (o q : Option ℕ) (t u : List ℕ) (n : ℕ) → Below o q → n ≤ 999999999 → Below (or_this o t u n) (or_this q t u n)
or_below None None t u n h small = from (bytes_eq t u)
  where
    from : (b : Bool) → Below (cond b (Some n) None) (cond b (Some n) None)
    from true = (omega arith, small)
    from false = tt
or_below None (Some b) t u n h small = absurd h
or_below (Some a) None t u n h small = absurd h
or_below (Some a) (Some b) t u n h small = h

more_below : (ps qs : Entries) (n : ℕ) (c : Cert) → IsBelow ps qs → n ≤ 999999999 → IsBelow (ps ++ (n, c) ∷ []) (qs ++ (n, c) ∷ [])
more_below ps qs n c h small t =
    subst (λ x. Below x (first_with t (qs ++ (n, c) ∷ []))) (sym (first_end t ps n c))
    (subst (λ x. Below (or_this (first_with t ps) t (cert_text c) n) x) (sym (first_end t qs n c)) (or_below (first_with t ps) (first_with t qs) t (cert_text c) n (h t) small))

abbrev pub past_size : Entries → Entries → ℕ
past_size ps es = length (lines_text (shared_lines ps es))

past_next : (ps : Entries) (e : ℕ × Cert) (es : Entries) → past_size ps (e ∷ es) ≡ head_size e.0 + listed_size (first_with (cert_text e.1) ps) e.1 + past_size (ps ++ e ∷ []) es
past_next ps e es = entry_size e.0 (listed_lines (listed_as (first_with (cert_text e.1) ps) e.1)) (shared_lines (ps ++ e ∷ []) es)

abbrev pub AreSmall : Entries → Type 0
AreSmall [] = ⊤
AreSmall (e ∷ es) = (e.0 ≤ 999999999) × AreSmall es

past_below : (es ps qs : Entries) → AreSmall es → IsBelow ps qs → past_size ps es ≤ past_size qs es
past_below [] ps qs small h = omega arith
past_below (e ∷ es) ps qs small h =
    let p = past_next ps e es in
    let q = past_next qs e es in
    let r = listed_below (first_with (cert_text e.1) ps) (first_with (cert_text e.1) qs) e.1 (h (cert_text e.1)) in
    let s = past_below es (ps ++ e ∷ []) (qs ++ e ∷ []) small.1 (more_below ps qs e.0 e.1 h small.0) in
    omega (arith, p, q, r, s)

-- ---- one entry more in front

record IsWith (n : ℕ) (c : Cert) (new ps : Entries) : Type 0 where
  pub others : (t : List ℕ) → bytes_eq t (cert_text c) ≡ false → Below (first_with t new) (first_with t ps)
  pub here : first_with (cert_text c) new ≡ Some n
  pub none : first_with (cert_text c) ps ≡ None

abbrev AllAbove : ℕ → Entries → Type 0
AllAbove n [] = ⊤
AllAbove n (e ∷ es) = (n ≤ e.0) × AllAbove n es

listed_is : (k : ℕ) (c : Cert) → listed_size (Some k) c ≡ cond (nat_lt (same_size k) (whole_size c)) (same_size k) (whole_size c)
listed_is k c = from (nat_lt (same_size k) (whole_size c))
  where
    from : (b : Bool) → length (listed_text (cond b (SameAs k) (Whole c))) ≡ cond b (same_size k) (whole_size c)
    from true = refl
    from false = refl

listed_alike : (k : ℕ) (c d : Cert) → cert_text c ≡ cert_text d → listed_size (Some k) c ≡ listed_size (Some k) d
listed_alike k c d e = listed_is k c ∙ ap (λ t. cond (nat_lt (same_size k) (length t)) (same_size k) (length t)) e ∙ sym (listed_is k d)

eq_self : (t : List ℕ) → bytes_eq t t ≡ true
eq_self t = nat_list_eq_equiv.refl t

-- after an entry with the same text, and after one with another
with_same : (n : ℕ) (c : Cert) (new ps : Entries) (e : ℕ × Cert) → IsWith n c new ps → n ≤ e.0 → e.0 ≤ 999999999 → cert_text c ≡ cert_text e.1 → IsBelow (new ++ e ∷ []) (ps ++ e ∷ [])
with_same n c new ps e w up small is t =
    subst (λ x. Below x (first_with t (ps ++ e ∷ []))) (sym (first_end t new e.0 e.1))
    (subst (λ x. Below (or_this (first_with t new) t (cert_text e.1) e.0) x) (sym (first_end t ps e.0 e.1)) (from (bytes_eq t (cert_text c)) refl))
  where
    from : (b : Bool) → bytes_eq t (cert_text c) ≡ b → Below (or_this (first_with t new) t (cert_text e.1) e.0) (or_this (first_with t ps) t (cert_text e.1) e.0)
    from true h =
        let q : t ≡ cert_text c = (bytes_decides t (cert_text c)).0 h in
        let a : first_with t new ≡ Some n = ap (λ u. first_with u new) q ∙ w.here in
        let b : first_with t ps ≡ None = ap (λ u. first_with u ps) q ∙ w.none in
        let g : bytes_eq t (cert_text e.1) ≡ true = ap (bytes_eq t) (sym is) ∙ h in
        subst (λ o. Below (or_this o t (cert_text e.1) e.0) (or_this (first_with t ps) t (cert_text e.1) e.0)) (sym a)
        (subst (λ o. Below (Some n) (or_this o t (cert_text e.1) e.0)) (sym b) (subst (λ x. Below (Some n) (cond x (Some e.0) None)) (sym g) (up, small)))
    from false h = or_below (first_with t new) (first_with t ps) t (cert_text e.1) e.0 (w.others t h) small

with_other : (n : ℕ) (c : Cert) (new ps : Entries) (e : ℕ × Cert) → IsWith n c new ps → e.0 ≤ 999999999 → bytes_eq (cert_text c) (cert_text e.1) ≡ false → IsWith n c (new ++ e ∷ []) (ps ++ e ∷ [])
with_other n c new ps e w small apart =
    record {
      others = λ t h. subst (λ x. Below x (first_with t (ps ++ e ∷ []))) (sym (first_end t new e.0 e.1))
          (subst (λ x. Below (or_this (first_with t new) t (cert_text e.1) e.0) x) (sym (first_end t ps e.0 e.1)) (or_below (first_with t new) (first_with t ps) t (cert_text e.1) e.0 (w.others t h) small));
      here = first_end (cert_text c) new e.0 e.1 ∙ ap (λ o. or_this o (cert_text c) (cert_text e.1) e.0) w.here;
      none = first_end (cert_text c) ps e.0 e.1 ∙ ap (λ o. or_this o (cert_text c) (cert_text e.1) e.0) w.none ∙ ap (λ b. cond b (Some e.0) None) apart;
    }

abbrev saved : Option ℕ → Cert → ℕ
saved None c = 0
saved (Some m) c = whole_size c

abbrev paid : Option ℕ → ℕ → Cert → ℕ
paid None n c = 0
paid (Some m) n c = listed_size (Some n) c

spared : (es new ps : Entries) (n : ℕ) (c : Cert) → AreSmall es → AllAbove n es → IsWith n c new ps
    → past_size new es + saved (first_with (cert_text c) es) c ≤ past_size ps es + paid (first_with (cert_text c) es) n c
spared [] new ps n c small up w = omega arith
spared (e ∷ es) new ps n c small up w = from (bytes_eq (cert_text c) (cert_text e.1)) refl (λ h. spared es (new ++ e ∷ []) (ps ++ e ∷ []) n c small.1 up.1 (with_other n c new ps e w small.0 h))
  where
    from : (b : Bool) → bytes_eq (cert_text c) (cert_text e.1) ≡ b
        → (bytes_eq (cert_text c) (cert_text e.1) ≡ false → past_size (new ++ e ∷ []) es + saved (first_with (cert_text c) es) c ≤ past_size (ps ++ e ∷ []) es + paid (first_with (cert_text c) es) n c)
        → past_size new (e ∷ es) + saved (cond b (Some e.0) (first_with (cert_text c) es)) c ≤ past_size ps (e ∷ es) + paid (cond b (Some e.0) (first_with (cert_text c) es)) n c
    from true h later =
        let is : cert_text c ≡ cert_text e.1 = (bytes_decides (cert_text c) (cert_text e.1)).0 h in
        let p = past_next new e es in
        let q = past_next ps e es in
        let a : listed_size (first_with (cert_text e.1) new) e.1 ≡ listed_size (Some n) c = ap (λ t. listed_size (first_with t new) e.1) (sym is) ∙ ap (λ o. listed_size o e.1) w.here ∙ sym (listed_alike n c e.1 is) in
        let b : listed_size (first_with (cert_text e.1) ps) e.1 ≡ whole_size c = ap (λ t. listed_size (first_with t ps) e.1) (sym is) ∙ ap (λ o. listed_size o e.1) w.none ∙ ap length (sym is) in
        let r = past_below es (new ++ e ∷ []) (ps ++ e ∷ []) small.1 (with_same n c new ps e w up.0 small.0 is) in
        omega (arith, p, q, a, b, r)
    from false h later =
        let p = past_next new e es in
        let q = past_next ps e es in
        let other : bytes_eq (cert_text e.1) (cert_text c) ≡ false = nat_list_eq_equiv.symm (cert_text e.1) (cert_text c) ∙ h in
        let a = listed_below (first_with (cert_text e.1) new) (first_with (cert_text e.1) ps) e.1 (w.others (cert_text e.1) other) in
        let r = later h in
        omega (arith, p, q, a, r)

-- ---- one entry more, at its place

-- the first numbers are below
abbrev pub FirstsBelow : Entries → ℕ → Type 0
FirstsBelow ps low = (t : List ℕ) (j : ℕ) → first_with t ps ≡ Some j → j < low

abbrev pub Has : ℕ → Cert → Entries → Entries → Type 0
Has k c ps es = ((j : ℕ) × (first_with (cert_text c) ps ≡ Some j) × (j ≤ k)) ⊎ ((m : ℕ) × (first_with (cert_text c) es ≡ Some m) × (m ≤ k))

-- this many bytes pay for the certificate: its lines, or the line `same` with a number that has it
abbrev pub Affords : ℕ → Cert → Entries → Entries → Type 0
Affords w c ps es = (whole_size c ≤ w) ⊎ ((k : ℕ) × (same_size k ≤ w) × (k ≤ 999999999) × Has k c ps es)

some_number : (a b : ℕ) → ◌≡◌ {A = Option ℕ} (Some a) (Some b) → a ≡ b
some_number a b e = cc

pub none_some : (o : Option ℕ) (k : ℕ) → o ≡ None → o ≡ Some k → ⊥
none_some o k p q = cc

first_up : (es : Entries) (t : List ℕ) (low m : ℕ) → rise_from low es ≡ true → first_with t es ≡ Some m → low ≤ m
first_up [] t low m rise h = cc
first_up (e ∷ es) t low m rise h =
    let r = and_parts (nat_le low e.0) (rise_from (e.0 + 1) es) rise in
    from (bytes_eq t (cert_text e.1)) h (le_from low e.0 r.0) (first_up es t (e.0 + 1) m r.1)
  where
    from : (b : Bool) → cond b (Some e.0) (first_with t es) ≡ Some m → low ≤ e.0 → (first_with t es ≡ Some m → e.0 + 1 ≤ m) → low ≤ m
    from true h le later = let p = some_number e.0 m h in omega (arith, p, le)
    from false h le later = let p = later h in omega (arith, p, le)

all_above : (es : Entries) (n low : ℕ) → rise_from low es ≡ true → n ≤ low → AllAbove n es
all_above [] n low rise le = tt
all_above (e ∷ es) n low rise le =
    let r = and_parts (nat_le low e.0) (rise_from (e.0 + 1) es) rise in
    let p = le_from low e.0 r.0 in
    (omega (arith, p, le), all_above es n (e.0 + 1) r.1 (omega (arith, p, le)))

-- what a listed certificate costs, where its number was met before
met : (ps es : Entries) (w low j : ℕ) (c : Cert) → FirstsBelow ps low → rise_from low es ≡ true → Affords w c ps es → first_with (cert_text c) ps ≡ Some j → listed_size (Some j) c ≤ w
met ps es w low j c below rise (inl h) is = let p = (is_listed j c).whole in omega (arith, p, h)
met ps es w low j c below rise (inr (k, pays, small, inl (i, at, le))) is =
    let e = some_number i j (sym at ∙ is) in
    let p = (is_listed j c).same in
    let q = same_longer j k (omega (arith, e, le)) small in
    omega (arith, p, q, pays)
met ps es w low j c below rise (inr (k, pays, small, inr (m, at, le))) is =
    let a = below (cert_text c) j is in
    let b = first_up es (cert_text c) low m rise at in
    let p = (is_listed j c).same in
    let q = same_longer j k (omega (arith, a, b, le)) small in
    omega (arith, p, q, pays)

-- and where it stands for the first time
unmet : (ps es : Entries) (w n low : ℕ) (c : Cert) (o : Option ℕ) → n ≤ low → rise_from low es ≡ true → first_with (cert_text c) ps ≡ None → first_with (cert_text c) es ≡ o → Affords w c ps es → whole_size c + paid o n c ≤ w + saved o c
unmet ps es w n low c None up rise none is (inl h) = omega (arith, h)
unmet ps es w n low c (Some m) up rise none is (inl h) = let p = (is_listed n c).whole in omega (arith, p, h)
unmet ps es w n low c o up rise none is (inr (k, pays, small, inl (i, at, le))) = absurd (none_some (first_with (cert_text c) ps) i none at)
unmet ps es w n low c None up rise none is (inr (k, pays, small, inr (m, at, le))) = absurd (none_some (first_with (cert_text c) es) m is at)
unmet ps es w n low c (Some i) up rise none is (inr (k, pays, small, inr (m, at, le))) =
    let b = first_up es (cert_text c) low m rise at in
    let p = (is_listed n c).same in
    let q = same_longer n k (omega (arith, up, b, le)) small in
    omega (arith, p, q, pays)

-- the entries after an entry that says nothing new
same_after : (ps : Entries) (n j low : ℕ) (c : Cert) → FirstsBelow ps low → low ≤ 999999999 + 1 → first_with (cert_text c) ps ≡ Some j → IsBelow (ps ++ (n, c) ∷ []) ps
same_after ps n j low c below small is t = subst (λ x. Below x (first_with t ps)) (sym (first_end t ps n c)) (from (first_with t ps) refl)
  where
    from : (o : Option ℕ) → first_with t ps ≡ o → Below (or_this o t (cert_text c) n) o
    from (Some i) h = let p = below t i h in (omega arith, omega (arith, p, small))
    from None h = other (bytes_eq t (cert_text c)) refl
      where
        other : (b : Bool) → bytes_eq t (cert_text c) ≡ b → Below (cond b (Some n) None) None
        other false k = tt
        other true k = absurd (none_some (first_with (cert_text c) ps) j (ap (λ u. first_with u ps) (sym ((bytes_decides t (cert_text c)).0 k)) ∙ h) is)

begins_with : (ps : Entries) (n low : ℕ) (c : Cert) → FirstsBelow ps low → low ≤ 999999999 + 1 → first_with (cert_text c) ps ≡ None → IsWith n c (ps ++ (n, c) ∷ []) ps
begins_with ps n low c below small none =
    record {
      others = λ t h. subst (λ x. Below x (first_with t ps)) (sym (first_end t ps n c)) (from t h (first_with t ps) refl);
      here = first_end (cert_text c) ps n c ∙ ap (λ o. or_this o (cert_text c) (cert_text c) n) none ∙ ap (λ b. cond b (Some n) None) (eq_self (cert_text c));
      none = none;
    }
  where
    from : (t : List ℕ) → bytes_eq t (cert_text c) ≡ false → (o : Option ℕ) → first_with t ps ≡ o → Below (or_this o t (cert_text c) n) o
    from t h (Some i) is = let p = below t i is in (omega arith, omega (arith, p, small))
    from t h None is = subst (λ b. Below (cond b (Some n) None) None) (sym h) tt

-- in front of these entries
put_front : (ps es : Entries) (w n low : ℕ) (c : Cert) → FirstsBelow ps n → n ≤ 999999999 → rise_from low es ≡ true → n ≤ low → AreSmall es → Affords w c ps es
    → past_size ps ((n, c) ∷ es) ≤ past_size ps es + head_size n + w
put_front ps es w n low c below small rise up few pays = from (first_with (cert_text c) ps) refl
  where
    from : (o : Option ℕ) → first_with (cert_text c) ps ≡ o → past_size ps ((n, c) ∷ es) ≤ past_size ps es + head_size n + w
    from (Some j) is =
        let p = past_next ps (n, c) es in
        let a : listed_size (first_with (cert_text c) ps) c ≡ listed_size (Some j) c = ap (λ o. listed_size o c) is in
        let b = met ps es w low j c (λ t i h. let q = below t i h in omega (arith, q, up)) rise pays is in
        let r = past_below es (ps ++ (n, c) ∷ []) ps few (same_after ps n j n c below (omega (arith, small)) is) in
        omega (arith, p, a, b, r)
    from None is =
        let p = past_next ps (n, c) es in
        let a : listed_size (first_with (cert_text c) ps) c ≡ whole_size c = ap (λ o. listed_size o c) is in
        let b = unmet ps es w n low c (first_with (cert_text c) es) up rise is refl pays in
        let r = spared es (ps ++ (n, c) ∷ []) ps n c few (all_above es n low rise up) (begins_with ps n n c below (omega (arith, small)) is) in
        omega (arith, p, a, b, r)

firsts_more : (ps : Entries) (low : ℕ) (e : ℕ × Cert) → FirstsBelow ps low → low ≤ e.0 → FirstsBelow (ps ++ e ∷ []) (e.0 + 1)
firsts_more ps low e below le t j h = from (first_with t ps) refl (sym (first_end t ps e.0 e.1) ∙ h)
  where
    from : (o : Option ℕ) → first_with t ps ≡ o → or_this o t (cert_text e.1) e.0 ≡ Some j → j < e.0 + 1
    from (Some i) is k = let p = below t i is in let q = some_number i j k in omega (arith, p, q, le)
    from None is k = other (bytes_eq t (cert_text e.1)) k
      where
        other : (b : Bool) → cond b (Some e.0) None ≡ Some j → j < e.0 + 1
        other true k = let q = some_number e.0 j k in omega (arith, q)
        other false k = cc

affords_more : (ps es : Entries) (w low : ℕ) (c : Cert) (e : ℕ × Cert) → FirstsBelow ps low → low ≤ e.0 → Affords w c ps (e ∷ es) → Affords w c (ps ++ e ∷ []) es
affords_more ps es w low c e below le (inl h) = inl h
affords_more ps es w low c e below le (inr (k, pays, small, inl (j, at, less))) =
    inr (k, pays, small, inl (j, first_end (cert_text c) ps e.0 e.1 ∙ ap (λ o. or_this o (cert_text c) (cert_text e.1) e.0) at, less))
affords_more ps es w low c e below le (inr (k, pays, small, inr (m, at, less))) = inr (k, pays, small, from (bytes_eq (cert_text c) (cert_text e.1)) refl at)
  where
    from : (b : Bool) → bytes_eq (cert_text c) (cert_text e.1) ≡ b → cond b (Some e.0) (first_with (cert_text c) es) ≡ Some m → Has k c (ps ++ e ∷ []) es
    from false h is = inr (m, is, less)
    from true h is = other (first_with (cert_text c) ps) refl
      where
        other : (o : Option ℕ) → first_with (cert_text c) ps ≡ o → Has k c (ps ++ e ∷ []) es
        other (Some j) q =
            let a = below (cert_text c) j q in
            let b = some_number e.0 m is in
            inl (j, first_end (cert_text c) ps e.0 e.1 ∙ ap (λ o. or_this o (cert_text c) (cert_text e.1) e.0) q, omega (arith, a, b, le, less))
        other None q =
            let b = some_number e.0 m is in
            inl (e.0, first_end (cert_text c) ps e.0 e.1 ∙ ap (λ o. or_this o (cert_text c) (cert_text e.1) e.0) q ∙ ap (λ x. cond x (Some e.0) None) h, omega (arith, b, less))

-- condition n has none
pub fresh_parts : (n : ℕ) (e : ℕ × Cert) (es : Entries) → certificate_of n (e ∷ es) ≡ None → (n ≡ e.0 → ⊥) × (certificate_of n es ≡ None)
fresh_parts n e es h = from (n == e.0) refl h
  where
    from : (b : Bool) → (n == e.0) ≡ b → cond b (Some e.1) (certificate_of n es) ≡ None → (n ≡ e.0 → ⊥) × (certificate_of n es ≡ None)
    from true q k = absurd (gone k)
      where
        gone : ◌≡◌ {A = Option Cert} (Some e.1) None → ⊥
        gone k = cc
    from false q k = ((λ p. off (sym (same n e.0 p) ∙ q)), k)
      where
        off : true ≡ false → ⊥
        off k = cc

pub put_in : (es ps : Entries) (w n low : ℕ) (c : Cert) → rise_from low es ≡ true → AreSmall es → FirstsBelow ps low → n ≤ 999999999 → low ≤ n → certificate_of n es ≡ None → Affords w c ps es
    → past_size ps (with_entry n c es) ≤ past_size ps es + head_size n + w
put_in [] ps w n low c rise few below small le fresh pays = put_front ps [] w n n c (λ t j h. let p = below t j h in omega (arith, p, le)) small refl (omega arith) tt pays
put_in (e ∷ es) ps w n low c rise few below small le fresh pays =
    let r = and_parts (nat_le low e.0) (rise_from (e.0 + 1) es) rise in
    let f = fresh_parts n e es fresh in
    let up = le_from low e.0 r.0 in
    from (nat_lt n e.0) refl (λ lt. put_in es (ps ++ e ∷ []) w n (e.0 + 1) c r.1 few.1 (firsts_more ps low e below up) small (omega (arith, lt)) f.1 (affords_more ps es w low c e below up pays)) f.0 r.1
  where
    from : (b : Bool) → nat_lt n e.0 ≡ b → (e.0 < n → past_size (ps ++ e ∷ []) (with_entry n c es) ≤ past_size (ps ++ e ∷ []) es + head_size n + w) → (n ≡ e.0 → ⊥) → rise_from (e.0 + 1) es ≡ true
        → past_size ps (cond b ((n, c) ∷ e ∷ es) (e ∷ with_entry n c es)) ≤ past_size ps (e ∷ es) + head_size n + w
    from true h later off rest =
        let lt = lt_from n e.0 h in
        put_front ps (e ∷ es) w n e.0 c (λ t j k. let p = below t j k in omega (arith, p, le)) small (both_true _ _ (le_true e.0 e.0 (omega arith)) rest) (omega (arith, lt)) few pays
    from false h later off rest =
        let ge = not_lt_from n e.0 h in
        let lt : e.0 < n = omega (arith, ge, off) in
        let a = past_next ps e (with_entry n c es) in
        let b = past_next ps e es in
        let d = later lt in
        omega (arith, a, b, d)
