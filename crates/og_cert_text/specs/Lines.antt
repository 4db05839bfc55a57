-- The lines of a certificate text: what each line says, how it is written, and which lines a certificate has.
use Rattle.std.specs.Prelude.{ℕ, suc, ◌+◌, ℤ, pos, List, [], ◌∷◌, ◌++◌, flat_map, Bool, true, false, not, ◌&&◌, nat_le, codes}
use Rattle.std.specs.Fmt.{decimal, signed_decimal}
use Rattle.std.specs.List.{list_all}
use Rattle.std.specs.Ordering.{int_eq}
use Rattle.og_linear.specs.Linear.{Terms, FormValue}
use Rattle.og_linear.specs.Bounded.{fits_form}
use Rattle.og_cert_text.specs.Tree.{Ref, Known, Low, High, Combination, Certs, no_cert, cert}

-- ---- what a line says

pub data Line : Type 0 where
  -- the certificate of this condition begins
  ForCondition : ℕ → Line
  -- it is the certificate of that condition
  SameLine : ℕ → Line
  SumLine : Combination → Line
  CutLine : ℕ → ℕ → Line
  BranchLine : FormValue → Line
  SplitLine : ℕ → ℕ → Line
  CloseLine : Combination → Line

-- ---- how it is written, without the LF after it

abbrev pub ref_text : Ref → List ℕ
ref_text (Known i) = decimal i
ref_text (Low v) = 108 ∷ decimal v
ref_text (High v) = 117 ∷ decimal v

-- `M*R`
abbrev pub term_text : ℕ × Ref → List ℕ
term_text t = decimal t.0 ++ 42 ∷ ref_text t.1

-- `A*vI`
abbrev pub part_text : ℕ × ℤ → List ℕ
part_text t = signed_decimal t.1 ++ 42 ∷ 118 ∷ decimal t.0

-- each with a space before it
abbrev pub combination_text : Combination → List ℕ
combination_text ts = flat_map (λ t. 32 ∷ term_text t) ts

abbrev pub parts_text : Terms → List ℕ
parts_text ts = flat_map (λ t. 32 ∷ part_text t) ts

abbrev pub line_text : Line → List ℕ
line_text (ForCondition n) = codes "cond" ++ 32 ∷ decimal n
line_text (SameLine k) = codes "same" ++ 32 ∷ decimal k
line_text (SumLine ts) = codes "sum" ++ combination_text ts
line_text (CutLine i d) = codes "cut" ++ 32 ∷ (decimal i ++ 32 ∷ decimal d)
line_text (BranchLine f) = codes "branch" ++ 32 ∷ (signed_decimal f.constant ++ parts_text f.terms)
line_text (SplitLine i k) = codes "split" ++ 32 ∷ (decimal i ++ 32 ∷ decimal k)
line_text (CloseLine ts) = codes "close" ++ combination_text ts

-- ---- the limits of its numbers

-- of a condition or a fact, counted from 1
abbrev pub is_number : ℕ → Bool
is_number n = nat_le 1 n && nat_le n 999999999

-- of a variable, counted from 0
abbrev pub is_variable : ℕ → Bool
is_variable v = nat_le v 999999999

-- a multiplier or a divisor
abbrev pub is_factor : ℕ → Bool
is_factor m = nat_le m 9223372036854775807

abbrev pub is_ref : Ref → Bool
is_ref (Known i) = is_number i
is_ref (Low v) = is_variable v
is_ref (High v) = is_variable v

abbrev pub is_some_terms : Combination → Bool
is_some_terms [] = false
is_some_terms (t ∷ ts) = true

abbrev pub is_combination : Combination → Bool
is_combination ts = is_some_terms ts && list_all (λ t. is_factor t.0 && is_ref t.1) ts

-- the variables rise from low on, and no coefficient is 0
abbrev pub rises_from : ℕ → Terms → Bool
rises_from low [] = true
rises_from low (t ∷ ts) = nat_le low t.0 && not (int_eq t.1 (pos 0)) && rises_from (t.0 + 1) ts

abbrev pub is_form : FormValue → Bool
is_form f = fits_form f && rises_from 0 f.terms && list_all (λ t. is_variable t.0) f.terms

abbrev pub is_line : Line → Bool
is_line (ForCondition n) = is_number n
is_line (SameLine k) = is_number k
is_line (SumLine ts) = is_combination ts
is_line (CutLine i d) = is_number i && is_factor d
is_line (BranchLine f) = is_form f
is_line (SplitLine i k) = is_number i && nat_le k 10000
is_line (CloseLine ts) = is_combination ts

-- ---- the lines of a certificate, in prefix order

abbrev pub cert_count : Certs → ℕ
cert_count no_cert = 0
cert_count (cert c cs) = suc (cert_count cs)

-- ---- well-formed certificates

-- the most branches and splits round a branch or a split, and one more
abbrev pub most_depth : ℕ
most_depth = 200
