-- What would help where an assertion is too weak: a bound that no assertion gives.
use Rattle.std.specs.Prelude.{ℕ, ℤ, nat_lt, nat_le, length, List, [], ◌∷◌, map, slice_get, Bool, true, not, ◌&&◌, Option, Some, None, if◌then◌else◌, codes}
use Rattle.std.specs.List.{list_any}
use Rattle.std.specs.Ordering.{int_eq}
use Rattle.og_linear.specs.Linear.{value_at}
use Rattle.og_typed.specs.Plain.{noted}
use Rattle.og_typed.specs.Syntax.{Noted, Program}
use Rattle.og_report_text.specs.Listing.{name_text, constant_text}
use Rattle.og_report_text.specs.Places.{◌&◌}
use Rattle.og_report_explain.specs.declared.explanation.Fault.{Fault}
use Rattle.og_report_explain.specs.declared.explanation.Fault.TheVariants as fault
use Rattle.og_report_prove.specs.declared.block.Block.{Block}
use Rattle.og_report_runs.specs.declared.witness.Run.{Run}
use Rattle.og_report_runs.specs.declared.witness.Run.TheVariants as run
use Rattle.og_report_findings.specs.Bounds.{others, is_bounded, assigned, numbers_at}

-- numbers with `and` between two; this stands before the first
abbrev pub numbers_text : List ℕ → List ℤ → List ℕ
numbers_text opening [] = []
numbers_text opening (n ∷ ns) = (opening & constant_text true n) & numbers_text (codes " and ") ns

abbrev pub named_text : List (List ℕ) → List ℕ → ℕ → List ℕ → List ℕ
named_text names before x after = before & name_text (slice_get names x) & after

abbrev pub hint_text : List (List ℕ) → ℕ → List ℤ → List ℕ
hint_text names x ns =
    named_text names (codes "  no assertion here bounds ") x (codes ", which is assigned ")
    & numbers_text [] ns & codes " alone\n"

-- a few numbers, and the state has none of them
abbrev pub is_outside : List ℤ → ℕ → List ℤ → Bool
is_outside values x ns = nat_lt 0 (length ns) && nat_le (length ns) 8 && not (list_any (λ n. int_eq n (value_at values x)) ns)

module _ (o : Program) (known : List Noted) (values : List ℤ) where
  -- and no assertion that is true there bounds the variable
  abbrev pub is_hint : ℕ → List ℤ → Bool
  is_hint x ns = is_outside values x ns && not (is_bounded (others (length o.names) x) x known)

  abbrev pub hint_line : ℕ → Option (List ℤ) → List ℕ
  hint_line x None = []
  hint_line x (Some ns) = if is_hint x ns then hint_text o.names x ns else []

  abbrev pub hint_lines : List ℕ → List ℕ
  hint_lines [] = []
  hint_lines (x ∷ xs) = hint_line x (numbers_at (assigned o) x) & hint_lines xs

-- below a false conjunct, for the variables that are printed first
abbrev pub fault_hints : Program → Block → Fault → List ℕ
fault_hints o block (fault.False note found) =
    hint_lines o (map (λ n. noted n.now) block.details.value.explanation.known.items) block.values block.details.value.state.items
fault_hints o block (fault.TooLarge x v) = []
fault_hints o block (fault.Blocked stands) = []

-- where no run gets there
abbrev pub hints_text : Program → Block → Run → List ℕ
hints_text o block (run.Reached w) = []
hints_text o block run.Never = fault_hints o block block.details.value.explanation.fault
hints_text o block run.Open = []
