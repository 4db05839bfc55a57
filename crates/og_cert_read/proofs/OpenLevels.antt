-- The certificates that are open round a line.
use Rattle.std.proofs.Common.{◌≡◌, ℕ, zero, suc, ◌+◌, ◌-◌, ◌<◌, ◌≤◌, List, [], ◌∷◌, ◌++◌, map, length, Vec, Global, refl, ap, sym, ◌∙◌, subst, ap₂, true, Option, Some, None, arith, length-append, take, Result, Ok, Err, IfOk, slice_index_or, slice_set}
use Rattle.std.specs.Prelude.{nat_le}
use Rattle.std.specs.List.{list_all}
use Rattle.std.proofs.lemmas.List.{map-append, length-take}
use Rattle.std.proofs.lemmas.List.Folds.{list_all-append}
use Rattle.og_cert_text.specs.declared.cert.CertStep.{CertStep}
use Rattle.og_cert_text.specs.declared.cert.CertStep.TheVariants as step_type
use Rattle.og_cert_text.specs.declared.cert.Cert.{Cert}
use Rattle.og_cert_text.specs.declared.cert.Finish as finish_type
use Rattle.og_linear.specs.Linear.{FormValue}
use Rattle.og_cert_text.specs.Tree as tree
use Rattle.og_cert_text.specs.Plain.{combination_of, with_steps, plain_cert, plain_finish, step_line}
use Rattle.og_cert_text.specs.Lines.{is_number, is_form, is_line}
use Rattle.og_cert_text.specs.Shallow.{are_shallow, cert_lines, certs_lines}
use Rattle.og_cert_text.specs.Files.{Entries}
use Rattle.og_cert_text.proofs.Forms.{lt_true, le_true, both_true}
use Rattle.og_cert_text.proofs.Plains.{plain_split, steps_shallow, steps_good, count_list}
use Rattle.og_cert_read.specs.declared.levels.Fork.{Fork}
use Rattle.og_cert_read.specs.declared.levels.Fork.TheVariants as its
use Rattle.og_cert_read.specs.declared.levels.Level.{Level}
use Rattle.og_cert_read.specs.declared.levels.Put.TheVariants as puts
use Rattle.og_cert_read.specs.Reading.{Frame, AfterSum, AfterCut, First, Second, Part, plug, within, depth}
use Rattle.og_cert_read.specs.Levels.{step_frame, fork_frame, steps_frames, level_frames, levels_frames, IsGood, AreGood, AreGoodFrames, IsPut, IsSettled, IsTakenIn, IsTakenInLast}

-- ---- steps and levels as frames

pub plug_steps : (ss : List CertStep) (done : Entries) (n : ℕ) (c : tree.Cert) (fs : List Frame) → plug done n c (steps_frames ss fs) ≡ plug done n (with_steps ss c) fs
plug_steps [] done n c fs = refl
plug_steps (step_type.Sum ts ∷ ss) done n c fs = plug_steps ss done n c (AfterSum (combination_of ts.items) ∷ fs)
plug_steps (step_type.Cut i d ∷ ss) done n c fs = plug_steps ss done n c (AfterCut i d ∷ fs)

pub depth_steps : (ss : List CertStep) (fs : List Frame) → depth (steps_frames ss fs) ≡ depth fs
depth_steps [] fs = refl
depth_steps (step_type.Sum ts ∷ ss) fs = depth_steps ss (AfterSum (combination_of ts.items) ∷ fs)
depth_steps (step_type.Cut i d ∷ ss) fs = depth_steps ss (AfterCut i d ∷ fs)

depth_fork : (k : Fork) (fs : List Frame) → depth (fork_frame k ∷ fs) ≡ depth fs + 1
depth_fork (its.First f) fs = refl
depth_fork (its.Second f c) fs = refl
depth_fork (its.Part i k cs) fs = refl

pub depth_levels : (ls : List Level) (fs : List Frame) → depth (levels_frames ls fs) ≡ length ls + depth fs
depth_levels [] fs = omega arith
depth_levels (l ∷ ls) fs =
    let p = depth_levels ls (level_frames l fs) in
    let q = depth_fork l.fork (steps_frames l.steps.items fs) in
    let r = depth_steps l.steps.items fs in
    omega (arith, p, q, r)

pub steps_end : (ss : List CertStep) (s : CertStep) (fs : List Frame) → steps_frames (ss ++ s ∷ []) fs ≡ step_frame s ∷ steps_frames ss fs
steps_end [] s fs = refl
steps_end (t ∷ ss) s fs = steps_end ss s (step_frame t ∷ fs)

pub levels_end : (ls : List Level) (l : Level) (fs : List Frame) → levels_frames (ls ++ l ∷ []) fs ≡ level_frames l (levels_frames ls fs)
levels_end [] l fs = refl
levels_end (m ∷ ls) l fs = levels_end ls l (level_frames m fs)

-- ---- within the limits

pub good_steps : (ss : List CertStep) (fs : List Frame) → AreGoodFrames (steps_frames ss fs) → AreGoodFrames fs × (list_all is_line (map step_line ss) ≡ true)
good_steps [] fs h = (h, refl)
good_steps (step_type.Sum ts ∷ ss) fs h =
    let r = good_steps ss (AfterSum (combination_of ts.items) ∷ fs) h in
    (r.0.1, both_true _ _ r.0.0 r.1)
good_steps (step_type.Cut i d ∷ ss) fs h =
    let r = good_steps ss (AfterCut i d ∷ fs) h in
    (r.0.1, both_true _ _ (both_true _ _ r.0.0.0 r.0.0.1) r.1)

pub good_with : (d : ℕ) (ss : List CertStep) (c : tree.Cert) → list_all is_line (map step_line ss) ≡ true → IsGood d c → IsGood d (with_steps ss c)
good_with d ss c h g = (steps_shallow d ss c ∙ g.0, steps_good ss c ∙ both_true _ _ h g.1)

good_branch : (d : ℕ) (f : FormValue) (a b : tree.Cert) → d < 200 → is_form f ≡ true → IsGood (d + 1) a → IsGood (d + 1) b → IsGood d (tree.Branch f a b)
good_branch d f a b lt h p q =
    (both_true _ _ (both_true _ _ (lt_true d 200 lt) p.0) q.0, both_true _ _ h (list_all-append is_line (cert_lines a) (cert_lines b) ∙ both_true _ _ p.1 q.1))

good_certs : (d : ℕ) (cs : List tree.Cert) → AreGood d cs → (are_shallow d (tree.cert_list cs) ≡ true) × (list_all is_line (certs_lines (tree.cert_list cs)) ≡ true)
good_certs d [] h = (refl, refl)
good_certs d (c ∷ cs) h =
    let r = good_certs d cs h.1 in
    (both_true _ _ h.0.0 r.0, list_all-append is_line (cert_lines c) (certs_lines (tree.cert_list cs)) ∙ both_true _ _ h.0.1 r.1)

pub good_split : (d i : ℕ) (cs : List tree.Cert) → d < 200 → is_number i ≡ true → length cs ≤ 10000 → AreGood (d + 1) cs → IsGood d (tree.SplitOn i (tree.cert_list cs))
good_split d i cs lt h few g =
    let r = good_certs (d + 1) cs g in
    (both_true _ _ (lt_true d 200 lt) r.0, both_true _ _ (both_true _ _ h (ap (λ n. nat_le n 10000) (count_list cs) ∙ le_true (length cs) 10000 few)) r.1)

good_end : (d : ℕ) (cs : List tree.Cert) (c : tree.Cert) → AreGood d cs → IsGood d c → AreGood d (cs ++ c ∷ [])
good_end d [] c h g = (g, tt)
good_end d (b ∷ cs) c h g = (h.0, good_end d cs c h.1 g)

-- ---- a complete certificate goes into the level round it

-- the frames of a level whose fork gives this one
abbrev pub Puts : Frame → tree.Cert → List CertStep → tree.Cert → Type 0
Puts k c ss w =
    (fs : List Frame)
    → ((done : Entries) (n : ℕ) → plug done n c (k ∷ steps_frames ss fs) ≡ plug done n w fs)
    × (AreGoodFrames (k ∷ steps_frames ss fs) → IsGood (depth (k ∷ steps_frames ss fs)) c → AreGoodFrames fs × IsGood (depth fs) w)

abbrev pub Opens : Frame → tree.Cert → List CertStep → Frame → Type 0
Opens k c ss j =
    (fs : List Frame)
    → ((done : Entries) (n : ℕ) → plug done n c (k ∷ steps_frames ss fs) ≡ within done n (j ∷ steps_frames ss fs))
    × (AreGoodFrames (k ∷ steps_frames ss fs) → IsGood (depth (k ∷ steps_frames ss fs)) c → AreGoodFrames (j ∷ steps_frames ss fs))

puts_second : (f : FormValue) (b c : tree.Cert) (ss : List CertStep) → Puts (Second f b) c ss (with_steps ss (tree.Branch f b c))
puts_second f b c ss fs = (
  λ done n. plug_steps ss done n (tree.Branch f b c) fs,
  λ h g. let s = good_steps ss fs h.1 in
      let e = depth_steps ss fs in
      (s.0, subst (λ d. IsGood d (with_steps ss (tree.Branch f b c))) e (good_with (depth (steps_frames ss fs)) ss (tree.Branch f b c) s.1 (good_branch (depth (steps_frames ss fs)) f b c h.0.0 h.0.1 h.0.2 g))),
)

puts_last : (i : ℕ) (cs : List tree.Cert) (c : tree.Cert) (ss : List CertStep) → Puts (Part i 0 cs) c ss (with_steps ss (tree.SplitOn i (tree.cert_list (cs ++ c ∷ []))))
puts_last i cs c ss fs =
    let w = tree.SplitOn i (tree.cert_list (cs ++ c ∷ [])) in (
      λ done n. plug_steps ss done n w fs,
      λ h g. let s = good_steps ss fs h.1 in
          let d = depth (steps_frames ss fs) in
          let few : length (cs ++ c ∷ []) ≤ 10000 = omega (arith, length-append {A = tree.Cert} cs (c ∷ []), h.0.2) in
          (s.0, subst (λ m. IsGood m (with_steps ss w)) (depth_steps ss fs) (good_with d ss w s.1 (good_split d i (cs ++ c ∷ []) h.0.0 h.0.1 few (good_end (d + 1) cs c h.0.3 g)))),
    )

opens_first : (f : FormValue) (c : tree.Cert) (ss : List CertStep) → Opens (First f) c ss (Second f c)
opens_first f c ss fs = (λ done n. refl, λ h g. ((h.0.0, h.0.1, g), h.1))

opens_part : (i k : ℕ) (cs : List tree.Cert) (c : tree.Cert) (ss : List CertStep) → Opens (Part i (suc k) cs) c ss (Part i k (cs ++ c ∷ []))
opens_part i k cs c ss fs = (
  λ done n. refl,
  λ h g. let few : length (cs ++ c ∷ []) + k + 1 ≤ 10000 = omega (arith, length-append {A = tree.Cert} cs (c ∷ []), h.0.2) in
      ((h.0.0, h.0.1, few, good_end (depth (steps_frames ss fs) + 1) cs c h.0.3 g), h.1),
)

-- ---- the same of the program's levels

pub put_first : (level : Level) (cert : Cert) (f : FormValue) → level.fork ≡ its.First f → IsPut level cert (puts.Open (record { steps = level.steps; fork = its.Second f cert }))
put_first level cert f e =
    subst (λ k. Opens (fork_frame k) (plain_cert cert) level.steps.items (Second f (plain_cert cert))) (sym e) (opens_first f (plain_cert cert) level.steps.items)

pub put_second : (level : Level) (cert first a b : Cert) (f : FormValue) → level.fork ≡ its.Second f first → a ≡ first → b ≡ cert → Puts (fork_frame level.fork) (plain_cert cert) level.steps.items (with_steps level.steps.items (tree.Branch f (plain_cert a) (plain_cert b)))
put_second level cert first a b f e p q =
    subst (λ k. Puts (fork_frame k) (plain_cert cert) level.steps.items (with_steps level.steps.items (tree.Branch f (plain_cert a) (plain_cert b)))) (sym e)
    (subst (λ x. Puts (Second f (plain_cert first)) (plain_cert cert) level.steps.items x)
    (ap₂ (λ x y. with_steps level.steps.items (tree.Branch f (plain_cert x) (plain_cert y))) (sym p) (sym q))
    (puts_second f (plain_cert first) (plain_cert cert) level.steps.items))

more : (cs v : List Cert) (cert : Cert) → v ≡ cs ++ cert ∷ [] → map plain_cert v ≡ map plain_cert cs ++ plain_cert cert ∷ []
more cs v cert e = ap (map plain_cert) e ∙ map-append plain_cert cs (cert ∷ [])

pub put_last : (level : Level) (cert : Cert) (i k : ℕ) (cs v : Vec Cert Global) → level.fork ≡ its.Part i k cs → k ≡ 0 → v.items ≡ cs.items ++ cert ∷ []
    → Puts (fork_frame level.fork) (plain_cert cert) level.steps.items (with_steps level.steps.items (plain_finish (finish_type.Split i v)))
put_last level cert i k cs v e none items =
    let w = with_steps level.steps.items (plain_finish (finish_type.Split i v)) in
    subst (λ x. Puts (fork_frame x) (plain_cert cert) level.steps.items w) (sym e)
    (subst (λ m. Puts (Part i m (map plain_cert cs.items)) (plain_cert cert) level.steps.items w) (sym none)
    (subst (λ x. Puts (Part i 0 (map plain_cert cs.items)) (plain_cert cert) level.steps.items x)
    (ap (λ l. with_steps level.steps.items (tree.SplitOn i (tree.cert_list l))) (sym (more cs.items v.items cert items)) ∙ ap (with_steps level.steps.items) (sym (plain_split i v)))
    (puts_last i (map plain_cert cs.items) (plain_cert cert) level.steps.items)))

one_less : (k : ℕ) → (k ≡ 0 → ⊥) → k ≡ suc (k - 1)
one_less k h = omega (arith, h)

pub put_part : (level : Level) (cert : Cert) (i k : ℕ) (cs v : Vec Cert Global) → level.fork ≡ its.Part i k cs → (k ≡ 0 → ⊥) → v.items ≡ cs.items ++ cert ∷ [] → IsPut level cert (puts.Open (record { steps = level.steps; fork = its.Part i (k - 1) v }))
put_part level cert i k cs v e some items =
    subst (λ x. Opens (fork_frame x) (plain_cert cert) level.steps.items (Part i (k - 1) (map plain_cert v.items))) (sym e)
    (subst (λ m. Opens (Part i m (map plain_cert cs.items)) (plain_cert cert) level.steps.items (Part i (k - 1) (map plain_cert v.items))) (sym (one_less k some))
    (subst (λ l. Opens (Part i (suc (k - 1)) (map plain_cert cs.items)) (plain_cert cert) level.steps.items (Part i (k - 1) l)) (sym (more cs.items v.items cert items))
    (opens_part i (k - 1) (map plain_cert cs.items) (plain_cert cert) level.steps.items)))

-- ---- into all levels

pub settle_whole : (old rest new : List Level) (level : Level) (cert whole : Cert) (r : Option Cert) → old ≡ rest ++ level ∷ [] → IsPut level cert (puts.Whole whole) → IsSettled rest whole new r → IsSettled old cert new r
settle_whole old rest new level cert whole (Some w) e put s =
    let p = put (levels_frames rest []) in
    let is : levels_frames old [] ≡ level_frames level (levels_frames rest []) = ap (λ ls. levels_frames ls []) e ∙ levels_end rest level [] in (
      λ done n. ap (plug done n (plain_cert cert)) is ∙ p.0 done n ∙ s.0 done n,
      λ h g. let q = p.1 (subst AreGoodFrames is h) (subst (λ fs. IsGood (depth fs) (plain_cert cert)) is g) in s.1 q.0 q.1,
    )
settle_whole old rest new level cert whole None e put s =
    let p = put (levels_frames rest []) in
    let is : levels_frames old [] ≡ level_frames level (levels_frames rest []) = ap (λ ls. levels_frames ls []) e ∙ levels_end rest level [] in (
      λ done n. ap (plug done n (plain_cert cert)) is ∙ p.0 done n ∙ s.0 done n,
      λ h g. let q = p.1 (subst AreGoodFrames is h) (subst (λ fs. IsGood (depth fs) (plain_cert cert)) is g) in s.1 q.0 q.1,
    )

pub settle_open : (old rest new : List Level) (level l : Level) (cert : Cert) → old ≡ rest ++ level ∷ [] → IsPut level cert (puts.Open l) → new ≡ rest ++ l ∷ [] → IsSettled old cert new None
settle_open old rest new level l cert e put later =
    let p = put (levels_frames rest []) in
    let is : levels_frames old [] ≡ level_frames level (levels_frames rest []) = ap (λ ls. levels_frames ls []) e ∙ levels_end rest level [] in
    let then : levels_frames new [] ≡ level_frames l (levels_frames rest []) = ap (λ ls. levels_frames ls []) later ∙ levels_end rest l [] in (
      λ done n. ap (plug done n (plain_cert cert)) is ∙ p.0 done n ∙ ap (within done n) (sym then),
      λ h g. subst AreGoodFrames (sym then) (p.1 (subst AreGoodFrames is h) (subst (λ fs. IsGood (depth fs) (plain_cert cert)) is g)),
    )

none_left : (old : List Level) → length old ≡ 0 → old ≡ []
none_left [] h = refl
none_left (l ∷ ls) h = absurd (omega (arith, h))

pub settle_end : (old : List Level) (cert : Cert) (new : List Level) → length old ≡ 0 → IsSettled old cert new (Some cert)
settle_end old cert new h =
    let e = none_left old h in (
      λ done n. ap (λ ls. plug done n (plain_cert cert) (levels_frames ls [])) e,
      λ p g. subst (λ ls. IsGood (depth (levels_frames ls [])) (plain_cert cert)) e g,
    )

pub empty_before : (old new : List Level) (n : ℕ) → old ≡ new ++ [] → new ≡ take (n - 1) old → n ≡ 0 → length old ≡ 0
empty_before old new n a b none =
    let p : length old ≡ length (new ++ []) = ap length a in
    let q : length new ≡ length (take (n - 1) old) = ap length b in
    omega (arith, p, q, none, length-append {A = Level} new [], length-take {A = Level} (n - 1) old)

-- ---- into the last level, in place

last_changed : (old : List Level) (i : ℕ) (x y : Level) → length old ≡ i + 1 → x ≡ slice_index_or old i x → (old ≡ take i old ++ x ∷ []) × (slice_set old i y ≡ take i old ++ y ∷ [])
last_changed [] i x y len at = absurd (omega (arith, len))
last_changed (z ∷ []) zero x y len at = (ap (λ s. s ∷ []) (sym at), refl)
last_changed (z ∷ w ∷ zs) zero x y len at = absurd (omega (arith, len))
last_changed (z ∷ zs) (suc i) x y len at =
    let r = last_changed zs i x y (omega (arith, len)) at in
    (ap (λ s. z ∷ s) r.0, ap (λ s. z ∷ s) r.1)

pub taken_last : {E : Type 0} (old : List Level) (i : ℕ) (x y : Level) (cert : Cert) (r : Result (Option Cert) E) → length old ≡ i + 1 → x ≡ slice_index_or old i x → IfOk r (λ o. IsTakenIn x cert y o) → IfOk r (λ o. IsTakenInLast old cert (slice_set old i y) o)
taken_last old i x y cert (Err e) len at h = tt
taken_last old i x y cert (Ok None) len at h =
    let p = last_changed old i x y len at in
    settle_open old (take i old) (slice_set old i y) x y cert p.0 h p.1
taken_last old i x y cert (Ok (Some left)) len at h =
    let p = last_changed old i x y len at in
    (h.0, p.1 ∙ ap (λ (l : Level). take i old ++ l ∷ []) h.1 ∙ sym p.0)
