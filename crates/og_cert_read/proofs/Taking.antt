-- What a line makes of the certificates that are open.
use Rattle.std.proofs.Common.{◌≡◌, ℕ, ◌+◌, ◌<◌, ◌≤◌, List, [], ◌∷◌, ◌++◌, map, length, Vec, Global, refl, ap, ap₂, sym, ◌∙◌, subst, true, Option, Some, None, Result, Ok, Err, arith}
use Rattle.std.specs.Prelude.{nat_lt, OnOk}
use Rattle.std.specs.declared.alloc.AllocError.{AllocError}
use Rattle.std.proofs.lemmas.Bool.{cond-true}
use Rattle.og_cert_text.specs.declared.cert.CertStep.{CertStep}
use Rattle.og_cert_text.specs.declared.cert.CertStep.TheVariants as step_type
use Rattle.og_cert_text.specs.declared.cert.Cert.{Cert}
use Rattle.og_cert_text.specs.declared.cert.Finish as finish_type
use Rattle.og_cert_text.specs.declared.file.CertFile.{CertFile}
use Rattle.og_cert_text.specs.declared.fault.CertTextError.{CertTextError}
use Rattle.og_cert_text.specs.Tree as tree
use Rattle.og_cert_text.specs.Plain.{with_steps, plain_cert, plain_finish, step_line}
use Rattle.og_cert_text.specs.Lines.{is_number, is_factor, is_line, most_depth}
use Rattle.og_cert_text.specs.Files.{Entries, certificate_of, with_entry}
use Rattle.og_cert_text.specs.Shown.{shown}
use Rattle.og_cert_text.specs.Text.{Version, One, Two}
use Rattle.og_cert_text.proofs.Forms.{lt_true, and_parts}
use Rattle.og_cert_text.proofs.Plains.{plain_split}
use Rattle.og_cert_read.specs.declared.levels.Level.{Level}
use Rattle.og_cert_read.specs.declared.reader.Reader.{Reader}
use Rattle.og_cert_read.specs.Reading.{Frame, Reading, within, plug, depth, LineFault, BadLine, TooDeep, deeper, split_frames, same_as}
use Rattle.og_cert_read.specs.Levels.{step_frame, fork_frame, steps_frames, level_frames, levels_frames, IsGood, IsGoodFrame, AreGoodFrames}
use Rattle.og_cert_read.specs.Reader.{place_in, reading_of, IsSoundAt, refused, IsRefusal}
use Rattle.og_cert_read.proofs.OpenLevels.{plug_steps, depth_steps, depth_levels, steps_end, levels_end, good_steps, good_with, good_split}

abbrev pub frames : List CertStep → List Level → List Frame
frames ss ls = steps_frames ss (levels_frames ls [])

pub depth_all : (ss : List CertStep) (ls : List Level) → depth (frames ss ls) ≡ length ls
depth_all ss ls = let p = depth_steps ss (levels_frames ls []) in let q = depth_levels ls [] in omega (arith, p, q)

pub open_frames : (ss old_ss : List CertStep) (ls old_ls : List Level) (l : Level) → ss ≡ [] → ls ≡ old_ls ++ l ∷ [] → l.steps.items ≡ old_ss → frames ss ls ≡ fork_frame l.fork ∷ frames old_ss old_ls
open_frames ss old_ss ls old_ls l none e p =
    ap (λ x. frames x ls) none ∙ ap (λ x. levels_frames x []) e ∙ levels_end old_ls l [] ∙ ap (λ x. fork_frame l.fork ∷ steps_frames x (levels_frames old_ls [])) p

-- ---- the end of a certificate

abbrev pub Whole : List Level → tree.Cert → tree.Cert → Type 0
Whole ls c w =
    ((done : Entries) (n : ℕ) → plug done n c (levels_frames ls []) ≡ plug done n w [])
    × (AreGoodFrames (levels_frames ls []) → IsGood (depth (levels_frames ls [])) c → IsGood 0 w)

abbrev pub Open : List Level → tree.Cert → List Level → Type 0
Open ls c new =
    ((done : Entries) (n : ℕ) → plug done n c (levels_frames ls []) ≡ within done n (levels_frames new []))
    × (AreGoodFrames (levels_frames ls []) → IsGood (depth (levels_frames ls [])) c → AreGoodFrames (levels_frames new []))

good_finish : (ss rs : List CertStep) (ls : List Level) (c : tree.Cert) → rs ≡ ss → AreGoodFrames (frames ss ls) → IsGood (depth (frames ss ls)) c
    → AreGoodFrames (levels_frames ls []) × IsGood (depth (levels_frames ls [])) (with_steps rs c)
good_finish ss rs ls c e h g =
    let s = good_steps ss (levels_frames ls []) h in (
      s.0,
      subst (λ x. IsGood (depth (levels_frames ls [])) (with_steps x c)) (sym e)
          (good_with (depth (levels_frames ls [])) ss c s.1 (subst (λ d. IsGood d c) (depth_steps ss (levels_frames ls [])) g)),
    )

sound_parts : (num : Option ℕ) (n : ℕ) (file : CertFile) (fs : List Frame) → num ≡ Some n → IsSoundAt num file fs → (is_number n ≡ true) × (certificate_of n (shown file) ≡ None) × AreGoodFrames fs
sound_parts num n file fs e s = let r = subst (λ o. IsSoundAt o file fs) e s in (r.0.0, r.0.1, r.1)

sound_from : (num : Option ℕ) (n : ℕ) (file : CertFile) (fs gs : List Frame) → num ≡ Some n → IsSoundAt num file fs → AreGoodFrames gs → IsSoundAt num file gs
sound_from num n file fs gs e s g =
    let r = subst (λ o. IsSoundAt o file fs) e s in
    subst (λ o. IsSoundAt o file gs) (sym e) (r.0, g)

pub finish_good : (num : Option ℕ) (n : ℕ) (file : CertFile) (ss rs : List CertStep) (ls : List Level) (c w : tree.Cert) → num ≡ Some n → rs ≡ ss → IsSoundAt num file (frames ss ls) → IsGood (depth (frames ss ls)) c → Whole ls (with_steps rs c) w → IsGood 0 w
finish_good num n file ss rs ls c w e p s g whole =
    let q = good_finish ss rs ls c p (sound_parts num n file (frames ss ls) e s).2 g in whole.1 q.0 q.1

plug_finish : (done : Entries) (n : ℕ) (ss rs : List CertStep) (ls : List Level) (c : tree.Cert) → rs ≡ ss → plug done n (with_steps rs c) (levels_frames ls []) ≡ plug done n c (frames ss ls)
plug_finish done n ss rs ls c p = ap (λ x. plug done n (with_steps x c) (levels_frames ls [])) p ∙ sym (plug_steps ss done n c (levels_frames ls []))

pub finish_open : (num : Option ℕ) (n : ℕ) (done : Entries) (ss rs none : List CertStep) (ls new : List Level) (c : tree.Cert) → num ≡ Some n → rs ≡ ss → none ≡ [] → Open ls (with_steps rs c) new
    → ◌≡◌ {A = Reading} (record { done = done; place = place_in num (frames none new) }) (plug done n c (frames ss ls))
finish_open num n done ss rs none ls new c e p q o =
    ap₂ (λ x y. record { done = done; place = place_in x (frames y new) }) e q ∙ sym (o.0 done n) ∙ plug_finish done n ss rs ls c p

pub finish_sound : (num : Option ℕ) (n : ℕ) (file : CertFile) (ss rs none : List CertStep) (ls new : List Level) (c : tree.Cert) → num ≡ Some n → rs ≡ ss → none ≡ [] → IsSoundAt num file (frames ss ls) → IsGood (depth (frames ss ls)) c → Open ls (with_steps rs c) new
    → IsSoundAt num file (frames none new)
finish_sound num n file ss rs none ls new c e p q s g o =
    let r = good_finish ss rs ls c p (sound_parts num n file (frames ss ls) e s).2 g in
    sound_from num n file (frames ss ls) (frames none new) e s (subst (λ x. AreGoodFrames (frames x new)) (sym q) (o.1 r.0 r.1))

pub finish_whole : (r : Result (Unit {0}) AllocError) (n : ℕ) (done : Entries) (new : Reader) (ss rs : List CertStep) (ls : List Level) (c w : tree.Cert) → rs ≡ ss → Whole ls (with_steps rs c) w
    → OnOk r (shown new.file ≡ with_entry n w done) → OnOk r (new.number ≡ None) → OnOk r (reading_of new ≡ plug done n c (frames ss ls))
finish_whole (Err e) n done new ss rs ls c w p whole file number = tt
finish_whole (Ok x) n done new ss rs ls c w p whole file number =
    ap₂ (λ a b. record { done = a; place = place_in b (frames new.steps.items new.levels.items) }) file number ∙ sym (whole.0 done n) ∙ plug_finish done n ss rs ls c p

-- ---- a step

pub step_taken : (num : Option ℕ) (n : ℕ) (done : Entries) (file : CertFile) (ss new : List CertStep) (ls : List Level) (s : CertStep) → num ≡ Some n → new ≡ ss ++ s ∷ []
    → ◌≡◌ {A = Reading} (within done n (step_frame s ∷ frames ss ls)) (record { done = done; place = place_in num (frames new ls) })
step_taken num n done file ss new ls s e p =
    ap (within done n) (sym (ap (λ x. frames x ls) p ∙ steps_end ss s (levels_frames ls []))) ∙ ap (λ o. record { done = done; place = place_in o (frames new ls) }) (sym e)

good_step : (d : ℕ) (s : CertStep) → is_line (step_line s) ≡ true → IsGoodFrame d (step_frame s)
good_step d (step_type.Sum ts) h = h
good_step d (step_type.Cut i k) h = let p = and_parts (is_number i) (is_factor k) h in (p.0, p.1)

pub step_sound : (num : Option ℕ) (n : ℕ) (file : CertFile) (ss new : List CertStep) (ls : List Level) (s : CertStep) → num ≡ Some n → new ≡ ss ++ s ∷ [] → is_line (step_line s) ≡ true → IsSoundAt num file (frames ss ls) → IsSoundAt num file (frames new ls)
step_sound num n file ss new ls s e p h sound =
    sound_from num n file (frames ss ls) (frames new ls) e sound
    (subst AreGoodFrames (sym (ap (λ x. frames x ls) p ∙ steps_end ss s (levels_frames ls []))) (good_step (depth (frames ss ls)) s h, (sound_parts num n file (frames ss ls) e sound).2))

-- ---- a branch or a split

pub deeper_ok : (fs : List Frame) (next : Reading) → depth fs < 200 → deeper fs next ≡ Ok next
deeper_ok fs next lt = cond-true (nat_lt (depth fs) most_depth) (Ok next) (Err TooDeep) (lt_true (depth fs) 200 lt)

pub empty_split_good : (d i : ℕ) (v : Vec Cert Global) → v.items ≡ [] → d < 200 → is_number i ≡ true → IsGood d (plain_finish (finish_type.Split i v))
empty_split_good d i v e lt h =
    subst (IsGood d) (sym (plain_split i v ∙ ap (λ l. tree.SplitOn i (tree.cert_list (map plain_cert l))) e)) (good_split d i [] lt h (omega arith) tt)

pub split_done : (fs : List Frame) (done : Entries) (n i k : ℕ) (v : Vec Cert Global) (r : Reading) → k ≡ 0 → v.items ≡ [] → r ≡ plug done n (plain_finish (finish_type.Split i v)) fs → r ≡ split_frames done n fs i k
split_done fs done n i k v r none e is =
    is ∙ ap (λ c. plug done n c fs) (plain_split i v ∙ ap (λ l. tree.SplitOn i (tree.cert_list (map plain_cert l))) e)
    ∙ sym (ap (split_frames done n fs i) none)

-- ---- `same`

pub bad_is : (e : CertTextError) (at : ℕ) (answer : Result Reading LineFault) → e ≡ refused BadLine at → answer ≡ Err BadLine → IsRefusal e at answer
bad_is e at answer p q = subst (λ x. IsRefusal x at answer) (sym p) (BadLine, q, refl)

pub same_first : (v : Version) (done : Entries) (n : ℕ) (fs : List Frame) (k : ℕ) → v ≡ One → same_as v done n fs k ≡ Err BadLine
same_first v done n fs k e = ap (λ x. same_as x done n fs k) e

pub same_late : (v : Version) (done : Entries) (n : ℕ) (fs : List Frame) (k : ℕ) → (fs ≡ [] → ⊥) → same_as v done n fs k ≡ Err BadLine
same_late One done n fs k h = refl
same_late Two done n [] k h = absurd (h refl)
same_late Two done n (f ∷ fs) k h = refl

steps_size : (ss : List CertStep) (fs : List Frame) → length (steps_frames ss fs) ≡ length ss + length fs
steps_size [] fs = omega arith
steps_size (s ∷ ss) fs = let p = steps_size ss (step_frame s ∷ fs) in omega (arith, p)

levels_size : (ls : List Level) (fs : List Frame) → length ls + length fs ≤ length (levels_frames ls fs)
levels_size [] fs = omega arith
levels_size (l ∷ ls) fs =
    let p = levels_size ls (level_frames l fs) in
    let q = steps_size l.steps.items fs in
    omega (arith, p, q)

pub some_frames : (ss : List CertStep) (ls : List Level) → 0 < length ss + length ls → frames ss ls ≡ [] → ⊥
some_frames ss ls h e =
    let p : length (frames ss ls) ≡ 0 = ap length e in
    let q = steps_size ss (levels_frames ls []) in
    let r = levels_size ls [] in
    omega (arith, h, p, q, r)
