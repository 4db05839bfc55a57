-- What the lines of a text give: a file of certificates, or the first line that is wrong.
use Rattle.std.specs.Prelude.{ℕ, zero, suc, ◌+◌, List, [], ◌∷◌, ◌++◌, if◌then◌else◌, nat_lt, Option, Some, None, is_some, Result, Ok, Err}
use Rattle.og_linear.specs.Linear.{FormValue}
use Rattle.og_cert_text.specs.Tree.{Combination, Cert, Sum, Cut, Close, Branch, SplitOn, cert_list}
use Rattle.og_cert_text.specs.Lines.{Line, ForCondition, SameLine, SumLine, CutLine, BranchLine, SplitLine, CloseLine, most_depth}
use Rattle.og_cert_text.specs.Files.{Entries, certificate_of, with_entry}
use Rattle.og_cert_text.specs.Text.{Version, One, Two}

-- ---- the branches and splits that are open round the line that is read, the innermost first

pub data Frame : Type 0 where
  AfterSum : Combination → Frame
  AfterCut : ℕ → ℕ → Frame
  -- the first sub-certificate, or the second one after the first
  First : FormValue → Frame
  Second : FormValue → Cert → Frame
  -- this many are still wanted after the one that is read, and these are read
  Part : ℕ → ℕ → List Cert → Frame

-- between two certificates, or within the one of this condition
pub data Place : Type 0 where
  Between : Place
  Within : ℕ → List Frame → Place

-- the file that is read so far
pub record Reading : Type 0 where
  pub done : Entries
  pub place : Place

abbrev pub between : Entries → Reading
between done = record { done = done; place = Between }

abbrev pub within : Entries → ℕ → List Frame → Reading
within done n fs = record { done = done; place = Within n fs }

-- a certificate is complete at the innermost place
abbrev pub plug : Entries → ℕ → Cert → List Frame → Reading
plug done n c [] = between (with_entry n c done)
plug done n c (AfterSum ts ∷ fs) = plug done n (Sum ts c) fs
plug done n c (AfterCut i d ∷ fs) = plug done n (Cut i d c) fs
plug done n c (First f ∷ fs) = within done n (Second f c ∷ fs)
plug done n c (Second f b ∷ fs) = plug done n (Branch f b c) fs
plug done n c (Part i zero cs ∷ fs) = plug done n (SplitOn i (cert_list (cs ++ c ∷ []))) fs
plug done n c (Part i (suc k) cs ∷ fs) = within done n (Part i k (cs ++ c ∷ []) ∷ fs)

-- how many branches and splits are round the place
abbrev pub depth : List Frame → ℕ
depth [] = 0
depth (AfterSum ts ∷ fs) = depth fs
depth (AfterCut i d ∷ fs) = depth fs
depth (First f ∷ fs) = depth fs + 1
depth (Second f c ∷ fs) = depth fs + 1
depth (Part i k cs ∷ fs) = depth fs + 1

-- ---- one line

pub data LineFault : Type 0 where
  BadLine : LineFault
  Twice : LineFault
  TooDeep : LineFault

abbrev pub deeper : List Frame → Reading → Result Reading LineFault
deeper fs next = if nat_lt (depth fs) most_depth then Ok next else Err TooDeep

abbrev pub split_frames : Entries → ℕ → List Frame → ℕ → ℕ → Reading
split_frames done n fs i zero = plug done n (SplitOn i (cert_list [])) fs
split_frames done n fs i (suc k) = within done n (Part i k [] ∷ fs)

abbrev pub or_bad : Option Cert → (Cert → Reading) → Result Reading LineFault
or_bad None f = Err BadLine
or_bad (Some c) f = Ok (f c)

-- `same k`, right after `cond n`
abbrev pub same_as : Version → Entries → ℕ → List Frame → ℕ → Result Reading LineFault
same_as One done n fs k = Err BadLine
same_as Two done n [] k = or_bad (certificate_of k done) (λ c. between (with_entry n c done))
same_as Two done n (f ∷ fs) k = Err BadLine

abbrev pub line_within : Version → Entries → ℕ → List Frame → Line → Result Reading LineFault
line_within v done n fs (ForCondition m) = Err BadLine
line_within v done n fs (SameLine k) = same_as v done n fs k
line_within v done n fs (SumLine ts) = Ok (within done n (AfterSum ts ∷ fs))
line_within v done n fs (CutLine i d) = Ok (within done n (AfterCut i d ∷ fs))
line_within v done n fs (BranchLine f) = deeper fs (within done n (First f ∷ fs))
line_within v done n fs (SplitLine i k) = deeper fs (split_frames done n fs i k)
line_within v done n fs (CloseLine ts) = Ok (plug done n (Close ts) fs)

abbrev pub line_between : Entries → Line → Result Reading LineFault
line_between done (ForCondition n) = if is_some (certificate_of n done) then Err Twice else Ok (within done n [])
line_between done _ = Err BadLine

abbrev pub line_at : Version → Entries → Place → Line → Result Reading LineFault
line_at v done Between line = line_between done line
line_at v done (Within n fs) line = line_within v done n fs line

-- ---- lines

abbrev pub goes : ℕ → Result Reading LineFault → (Reading → Result Entries (LineFault × ℕ)) → Result Entries (LineFault × ℕ)
goes at (Ok r) f = f r
goes at (Err e) f = Err (e, at)

-- at the end no certificate is open: its next line is missing
abbrev pub ended : ℕ → Entries → Place → Result Entries (LineFault × ℕ)
ended at done Between = Ok done
ended at done (Within n fs) = Err (BadLine, at)

-- the file of these lines, or the first fault and its line, the first of these having the number `at`. A piece that says no line is None
abbrev pub read_lines : Version → ℕ → Reading → List (Option Line) → Result Entries (LineFault × ℕ)
read_lines v at r [] = ended at r.done r.place
read_lines v at r (None ∷ lines) = Err (BadLine, at)
read_lines v at r (Some line ∷ lines) = goes at (line_at v r.done r.place line) (λ next. read_lines v (at + 1) next lines)

abbrev pub nothing_read : Reading
nothing_read = between []
