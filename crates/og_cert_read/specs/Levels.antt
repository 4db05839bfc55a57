-- The certificates that are open round a line, as the program has them: the words of the contracts of private functions.
use Rattle.std.specs.Prelude.{◌≡◌, ℕ, ◌+◌, ◌<◌, ◌≤◌, List, [], ◌∷◌, map, length, true, ⊤, Option, Some, None}
use Rattle.std.specs.List.{list_all}
use Rattle.og_cert_text.specs.declared.cert.CertStep.{CertStep}
use Rattle.og_cert_text.specs.declared.cert.CertStep.TheVariants as step_type
use Rattle.og_cert_text.specs.declared.cert.Cert.{Cert}
use Rattle.og_cert_text.specs.Tree as tree
use Rattle.og_cert_text.specs.Plain.{combination_of, plain_cert}
use Rattle.og_cert_text.specs.Lines.{is_number, is_factor, is_combination, is_form, is_line}
use Rattle.og_cert_text.specs.Shallow.{is_shallow, cert_lines}
use Rattle.og_cert_text.specs.Files.{Entries}
use Rattle.og_cert_read.specs.declared.levels.Fork.{Fork}
use Rattle.og_cert_read.specs.declared.levels.Fork.TheVariants as its
use Rattle.og_cert_read.specs.declared.levels.Level.{Level}
use Rattle.og_cert_read.specs.declared.levels.Put.{Put}
use Rattle.og_cert_read.specs.declared.levels.Put.TheVariants as puts
use Rattle.og_cert_read.specs.Reading.{Frame, AfterSum, AfterCut, First, Second, Part, plug, within, depth}

-- ---- the frames of a reading

abbrev pub step_frame : CertStep → Frame
step_frame (step_type.Sum ts) = AfterSum (combination_of ts.items)
step_frame (step_type.Cut i d) = AfterCut i d

abbrev pub fork_frame : Fork → Frame
fork_frame (its.First f) = First f
fork_frame (its.Second f c) = Second f (plain_cert c)
fork_frame (its.Part i k cs) = Part i k (map plain_cert cs.items)

-- the last step is the innermost
abbrev pub steps_frames : List CertStep → List Frame → List Frame
steps_frames [] fs = fs
steps_frames (s ∷ ss) fs = steps_frames ss (step_frame s ∷ fs)

abbrev pub level_frames : Level → List Frame → List Frame
level_frames l fs = fork_frame l.fork ∷ steps_frames l.steps.items fs

-- the last level is the innermost
abbrev pub levels_frames : List Level → List Frame → List Frame
levels_frames [] fs = fs
levels_frames (l ∷ ls) fs = levels_frames ls (level_frames l fs)

-- ---- the open branches are within the limits

-- with this many branches and splits round it
abbrev pub IsGood : ℕ → tree.Cert → Type 0
IsGood d c = (is_shallow d c ≡ true) × (list_all is_line (cert_lines c) ≡ true)

abbrev pub AreGood : ℕ → List tree.Cert → Type 0
AreGood d [] = ⊤
AreGood d (c ∷ cs) = IsGood d c × AreGood d cs

abbrev pub IsGoodFrame : ℕ → Frame → Type 0
IsGoodFrame d (AfterSum ts) = is_combination ts ≡ true
IsGoodFrame d (AfterCut i k) = (is_number i ≡ true) × (is_factor k ≡ true)
IsGoodFrame d (First f) = (d < 200) × (is_form f ≡ true)
IsGoodFrame d (Second f c) = (d < 200) × (is_form f ≡ true) × IsGood (d + 1) c
IsGoodFrame d (Part i k cs) = (d < 200) × (is_number i ≡ true) × (length cs + k + 1 ≤ 10000) × AreGood (d + 1) cs

abbrev pub AreGoodFrames : List Frame → Type 0
AreGoodFrames [] = ⊤
AreGoodFrames (f ∷ fs) = IsGoodFrame (depth fs) f × AreGoodFrames fs

-- ---- a complete certificate at the innermost place

-- what stands round the level is as it was
abbrev pub IsPut : Level → Cert → Put → Type 0
IsPut level c (puts.Whole w) =
    (fs : List Frame)
    → ((done : Entries) (n : ℕ) → plug done n (plain_cert c) (level_frames level fs) ≡ plug done n (plain_cert w) fs)
    × (AreGoodFrames (level_frames level fs) → IsGood (depth (level_frames level fs)) (plain_cert c) → AreGoodFrames fs × IsGood (depth fs) (plain_cert w))
IsPut level c (puts.Open l) =
    (fs : List Frame)
    → ((done : Entries) (n : ℕ) → plug done n (plain_cert c) (level_frames level fs) ≡ within done n (level_frames l fs))
    × (AreGoodFrames (level_frames level fs) → IsGood (depth (level_frames level fs)) (plain_cert c) → AreGoodFrames (level_frames l fs))

-- the outermost certificate is complete, or there are these levels
abbrev pub IsSettled : List Level → Cert → List Level → Option Cert → Type 0
IsSettled old c new (Some w) =
    ((done : Entries) (n : ℕ) → plug done n (plain_cert c) (levels_frames old []) ≡ plug done n (plain_cert w) [])
    × (AreGoodFrames (levels_frames old []) → IsGood (depth (levels_frames old [])) (plain_cert c) → IsGood 0 (plain_cert w))
IsSettled old c new None =
    ((done : Entries) (n : ℕ) → plug done n (plain_cert c) (levels_frames old []) ≡ within done n (levels_frames new []))
    × (AreGoodFrames (levels_frames old []) → IsGood (depth (levels_frames old [])) (plain_cert c) → AreGoodFrames (levels_frames new []))

-- the certificate is put into the level, or it is left and the level is as it was
abbrev pub IsTakenIn : Level → Cert → Level → Option Cert → Type 0
IsTakenIn old c new None = IsPut old c (puts.Open new)
IsTakenIn old c new (Some left) = (left ≡ c) × (new ≡ old)

-- the same of the last level, if there is one
abbrev pub IsTakenInLast : List Level → Cert → List Level → Option Cert → Type 0
IsTakenInLast old c new None = IsSettled old c new None
IsTakenInLast old c new (Some left) = (left ≡ c) × (new ≡ old)
