-- The first line of a stream.
use Rattle.std.proofs.Common.{◌≡◌, ℕ, ◌+◌, ◌<◌, ◌≤◌, Bool, true, false, cond, eqb, ltb, List, [], ◌∷◌, ◌++◌, length, take, drop, get_or, arith, ap, sym, ◌∙◌, refl, length-append}
use Rattle.std.specs.List.{prefix_len}
use Rattle.std.proofs.lemmas.List.{take-append-le, drop-append-le, length-take-le, get_or-take, append_assoc}
use Rattle.std.proofs.lemmas.List.Sums.{prefix_len-le-length, prefix_len_is, prefix_len_passes, passes_at_first, split_at_first}
use Rattle.std.proofs.lemmas.List.Folds.{prefix_len-append}
use Rattle.std.proofs.lemmas.Bool.{eqb-true, eqb-false, ltb-true, ltb-false, lt-ltb, le-ltb, ne_eqb, cond-false, cond_both}
use Rattle.og_lsp_frame.specs.Front.{in_line, FirstLine, NoEnd, Long, Line, first_line, ended}

-- how many bytes stand in front of the first LF
abbrev pub line_len : List ℕ → ℕ
line_len stream = prefix_len in_line stream

-- by whether that is too many, and whether it is all
abbrev line_by : Bool → Bool → List ℕ → FirstLine
line_by long whole stream = cond long Long (cond whole NoEnd (Line (take (line_len stream) stream) (drop (line_len stream + 1) stream)))

first_by : (stream : List ℕ) (long whole : Bool) → ltb 4096 (line_len stream) ≡ long → eqb (line_len stream) (length stream) ≡ whole → first_line stream ≡ line_by long whole stream
first_by stream long whole e k =
    ap (λ (b : Bool). line_by b (eqb (line_len stream) (length stream)) stream) e ∙ ap (λ (b : Bool). line_by long b stream) k

-- a first line that has come whole
pub record IsFirst (stream line rest : List ℕ) : Type 0 where
  pub inside : line_len stream < length stream
  pub small : line_len stream ≤ 4096
  pub is_line : line ≡ take (line_len stream) stream
  pub is_rest : rest ≡ drop (line_len stream + 1) stream

is_first_by : (stream line rest : List ℕ) (long whole : Bool) → ltb 4096 (line_len stream) ≡ long → eqb (line_len stream) (length stream) ≡ whole
    → line_by long whole stream ≡ Line line rest → IsFirst stream line rest
is_first_by stream line rest true whole e k is = cc
is_first_by stream line rest false true e k is = cc
is_first_by stream line rest false false e k is = record {
  inside = omega (arith, eqb-false (line_len stream) (length stream) k, prefix_len-le-length in_line stream);
  small = ltb-false 4096 (line_len stream) e;
  is_line = cc;
  is_rest = cc;
}

pub is_first : (stream line rest : List ℕ) → first_line stream ≡ Line line rest → IsFirst stream line rest
is_first stream line rest is =
    let long = ltb 4096 (line_len stream) in
    let whole = eqb (line_len stream) (length stream) in
    is_first_by stream line rest long whole refl refl (sym (first_by stream long whole refl refl) ∙ is)

pub first_is : (stream line rest : List ℕ) → IsFirst stream line rest → first_line stream ≡ Line line rest
first_is stream line rest first =
    let here = first_by stream false false (le-ltb 4096 (line_len stream) first.small) (ne_eqb (line_len stream) (length stream) (λ h. omega (arith, first.inside))) in
    let line_is = first.is_line in
    let rest_is = first.is_rest in
    cc

long_by : (stream : List ℕ) (long whole : Bool) → ltb 4096 (line_len stream) ≡ long → line_by long whole stream ≡ Long → 4096 < line_len stream
long_by stream true whole e is = ltb-true 4096 (line_len stream) e
long_by stream false true e is = cc
long_by stream false false e is = cc

pub is_long : (stream : List ℕ) → first_line stream ≡ Long → 4096 < line_len stream
is_long stream is = long_by stream (ltb 4096 (line_len stream)) (eqb (line_len stream) (length stream)) refl is

pub long_is : (stream : List ℕ) → 4096 < line_len stream → first_line stream ≡ Long
long_is stream lt = first_by stream true (eqb (line_len stream) (length stream)) (lt-ltb 4096 (line_len stream) lt) refl

-- ---- its parts

pub record AreParts (stream line rest : List ℕ) : Type 0 where
  pub parts : stream ≡ ended line ++ rest
  pub one_line : line_len line ≡ length line

parts_of : (stream line rest : List ℕ) → line_len stream < length stream → line ≡ take (line_len stream) stream → rest ≡ drop (line_len stream + 1) stream → stream ≡ line ++ 10 ∷ rest
parts_of stream line rest inside e k =
    let here = split_at_first (λ (b : ℕ). eqb b 10) stream 0 inside in
    let is_end : get_or stream (line_len stream) 0 ≡ 10 = eqb-true (get_or stream (line_len stream) 0) 10 (passes_at_first (λ (b : ℕ). eqb b 10) stream 0 inside) in
    cc

ended_then : (line rest : List ℕ) → ended line ++ rest ≡ line ++ 10 ∷ rest
ended_then line rest = append_assoc line (10 ∷ []) rest

passes : (stream : List ℕ) (k : ℕ) → k < line_len stream → in_line (get_or (take (line_len stream) stream) k 0) ≡ true
passes stream k lt = rw (get_or-take (line_len stream) stream k 0 lt) (prefix_len_passes in_line stream k 0 lt)

one_line_of : (stream : List ℕ) → line_len stream < length stream → line_len (take (line_len stream) stream) ≡ line_len stream
one_line_of stream inside =
    let len = length-take-le (line_len stream) stream (omega arith) in
    prefix_len_is in_line (take (line_len stream) stream) (line_len stream) 0 (omega (arith, len)) (λ k lt. passes stream k lt) (λ h. absurd (omega (arith, len, h)))

pub are_parts : (stream line rest : List ℕ) → IsFirst stream line rest → AreParts stream line rest
are_parts stream line rest first = record {
  parts = parts_of stream line rest first.inside first.is_line first.is_rest ∙ sym (ended_then line rest);
  one_line =
      ap line_len first.is_line ∙ one_line_of stream first.inside ∙ sym (ap length first.is_line ∙ length-take-le (line_len stream) stream (omega (arith, first.inside)));
}

-- ---- more comes

same_len : (stream more : List ℕ) → line_len stream < length stream → line_len (stream ++ more) ≡ line_len stream
same_len stream more inside =
    prefix_len-append in_line stream more
    ∙ cond-false (eqb (line_len stream) (length stream)) (length stream + line_len more) (line_len stream) (ne_eqb (line_len stream) (length stream) (λ h. omega arith))

no_shorter : (stream more : List ℕ) → line_len stream ≤ line_len (stream ++ more)
no_shorter stream more =
    let grown : line_len stream ≤ cond (eqb (line_len stream) (length stream)) (length stream + line_len more) (line_len stream) =
    cond_both (eqb (line_len stream) (length stream)) (length stream + line_len more) (line_len stream) (λ (n : ℕ). line_len stream ≤ n) (λ h. omega (arith, prefix_len-le-length in_line stream)) (λ h. omega arith) in
    omega (arith, prefix_len-append in_line stream more, grown)

-- the first line stays the first
pub first_goes_on : (stream line rest more : List ℕ) → IsFirst stream line rest → IsFirst (stream ++ more) line (rest ++ more)
first_goes_on stream line rest more first =
    let len = same_len stream more first.inside in
    let inside = first.inside in
    record {
      inside = omega (arith, len, length-append stream more);
      small = omega (arith, len, first.small);
      is_line = first.is_line ∙ sym (ap (λ (n : ℕ). take n (stream ++ more)) len ∙ take-append-le (line_len stream) stream more (omega arith));
      is_rest = ap (λ (z : List ℕ). z ++ more) first.is_rest ∙ sym (ap (λ (n : ℕ). drop (n + 1) (stream ++ more)) len ∙ drop-append-le (line_len stream + 1) stream more (omega arith));
    }

pub long_goes_on : (stream more : List ℕ) → first_line stream ≡ Long → first_line (stream ++ more) ≡ Long
long_goes_on stream more is = long_is (stream ++ more) (omega (arith, is_long stream is, no_shorter stream more))
