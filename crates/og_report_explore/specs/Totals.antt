-- How many starts and moments there were, and what follows.
use Rattle.std.specs.Prelude.{ℕ, ◌+◌, ◌==◌, ℤ, true, List, [], ◌∷◌, length, slice_get, Bool, false, not, if◌then◌else◌, codes}
use Rattle.std.specs.Fmt.{decimal}
use Rattle.std.specs.Ordering.{int_eq}
use Rattle.std.specs.List.{list_any}
use Rattle.og_report_text.specs.Places.{◌&◌}
use Rattle.og_report_text.specs.Listing.{name_text, constant_text}
use Rattle.og_report_text.specs.Values.{value_text}
use Rattle.og_report_explore.specs.declared.finding.Fault.{Fault}
use Rattle.og_report_explore.specs.declared.finding.Fault.TheVariants as fault
use Rattle.og_report_explore.specs.declared.finding.Finding.{Finding}
use Rattle.og_report_explore.specs.declared.totals.Found.{Found}
use Rattle.og_report_explore.specs.declared.totals.Found.TheVariants as found
use Rattle.og_report_explore.specs.declared.totals.Totals.{Totals}

abbrev pub is_stuck_fault : Fault → Bool
is_stuck_fault (fault.Assertion p note all) = false
is_stuck_fault (fault.Overflow p item x v) = false
is_stuck_fault (fault.Post note all) = false
is_stuck_fault (fault.Stuck stands) = true

-- no process can step
abbrev pub is_stuck : Finding → Bool
is_stuck f = is_stuck_fault f.fault

-- an assertion is false, or a process overflows
abbrev pub is_unsafe : Finding → Bool
is_unsafe f = not (is_stuck_fault f.fault)

-- no where it is found; yes where all was explored; else nothing is known
abbrev pub found_of : Bool → Bool → Found
found_of complete is = if is then found.No else (if complete then found.Yes else found.Open)

abbrev pub safe_of : Bool → List Finding → Found
safe_of complete fs = found_of complete (list_any is_unsafe fs)

abbrev pub unblocked_of : Bool → List Finding → Found
unblocked_of complete fs = found_of complete (list_any is_stuck fs)

abbrev pub found_word : Found → List ℕ
found_word found.Yes = codes "yes"
found_word found.No = codes "no"
found_word found.Open = codes "open"

abbrev pub found_line : List ℕ → Found → List ℕ
found_line word f = word & codes " from these starts: " & found_word f & codes "\n"

abbrev pub complete_word : Bool → List ℕ
complete_word true = codes "complete: yes\n"
complete_word false = codes "complete: no\n"

abbrev pub moments_line : ℕ → List ℕ
moments_line n = codes "moments: " & decimal n & codes "\n"

-- at how many of them all have ended
abbrev pub ended_line : ℕ → List ℕ
ended_line n = codes "ended: " & decimal n & codes "\n"

module _ (names : List (List ℕ)) where
  abbrev pub between_text : ℕ → ℤ → ℤ → List ℕ
  between_text x low high =
      name_text (slice_get names x) & codes " = " & constant_text true low & codes ".." & constant_text true high

  -- one value, or the least and the greatest
  abbrev pub range_text : ℕ → ℤ × ℤ → List ℕ
  range_text x r = if int_eq r.0 r.1 then value_text names x r.0 else between_text x r.0 r.1

  -- of the variables from number x on; this stands before the first
  abbrev pub ranges_text : List ℕ → ℕ → List (ℤ × ℤ) → List ℕ
  ranges_text opening x [] = []
  ranges_text opening x (r ∷ rs) = (opening & range_text x r) & ranges_text (codes ", ") (x + 1) rs

  abbrev pub given_text : List (ℤ × ℤ) → List ℕ
  given_text rs = if length rs == 0 then codes "nothing" else ranges_text [] 0 rs

  abbrev pub starts_line : ℕ → List (ℤ × ℤ) → List ℕ
  starts_line n rs = codes "starts: " & decimal n & codes " with " & given_text rs & codes "\n"

  abbrev pub totals_text : Totals → List Finding → List ℕ
  totals_text t fs =
      starts_line t.starts t.given.items & moments_line t.moments & ended_line t.ended & complete_word t.complete
      & found_line (codes "safe") (safe_of t.complete fs) & found_line (codes "unblocked") (unblocked_of t.complete fs)
