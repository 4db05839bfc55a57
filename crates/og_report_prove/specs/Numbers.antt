-- Which conjuncts of an assertion are false, by number.
use Rattle.std.specs.Prelude.{ℕ, ◌+◌, ℤ, List, [], ◌∷◌, if◌then◌else◌}
use Rattle.og_typed.specs.Syntax.{Formula}
use Rattle.og_typed.specs.Plain.{noted}
use Rattle.og_typed.specs.Truth.{truth}
use Rattle.og_report_text.specs.Conjuncts.{conjuncts}
use Rattle.og_report_explain.specs.declared.explanation.Fault.{Fault}
use Rattle.og_report_explain.specs.declared.explanation.Fault.TheVariants as fault

-- the numbers, from n on, of the false ones among these assertions
abbrev pub false_numbers : List ℤ → ℕ → List Formula → List ℕ
false_numbers s n [] = []
false_numbers s n (a ∷ rest) = if truth a s then false_numbers s (n + 1) rest else n ∷ false_numbers s (n + 1) rest

-- of the false conjuncts of an assertion, from 0
abbrev pub fault_numbers : List ℤ → Fault → List ℕ
fault_numbers s (fault.False note found) = false_numbers s 0 (conjuncts (noted note.now).assertion)
fault_numbers s (fault.TooLarge x v) = []
fault_numbers s (fault.Blocked stands) = []
