-- The findings at a place in the source, by the findings on the conditions.
use Rattle.std.specs.Prelude.{ℕ, ◌+◌, ◌==◌, List, [], ◌∷◌, Bool, true, false, Option, Some, None}
use Rattle.std.specs.Ordering.{nat_cmp}
use Rattle.std.specs.BTreeMap.{BTreeMap, get_by}
use Rattle.og_typed.specs.Plain.{noted}
use Rattle.og_cond.specs.Condition.{Condition}
use Rattle.og_report_text.specs.Origins.{Rows, row_at, from_of}
use Rattle.og_report_explain.specs.declared.explanation.Fault.{Fault}
use Rattle.og_report_explain.specs.declared.explanation.Fault.TheVariants as fault
use Rattle.og_report_prove.specs.declared.diagnosis.Diagnosis.{Diagnosis}
use Rattle.og_report_prove.specs.declared.diagnosis.Diagnosis.TheVariants as diagnosis
use Rattle.og_report_html.specs.declared.marks.Mark.{Mark}
use Rattle.og_report_html.specs.declared.marks.Mark.TheVariants as mark
use Rattle.og_report_html.specs.declared.target.Target.{Target}

-- ---- the place of a condition

-- one that is false at the assertion that is false in the state of its block, else at its own place
abbrev pub fault_place : Condition → Fault → ℕ
fault_place c (fault.False note found) = (noted note.now).at
fault_place c (fault.TooLarge x v) = c.at
fault_place c (fault.Blocked stands) = c.at

-- of one that is open at the assertion to which it leads
abbrev pub marked_place : Condition → Diagnosis → Target → ℕ
marked_place c diagnosis.Proved g = g.goal
marked_place c (diagnosis.False block) g = fault_place c block.details.value.explanation.fault
marked_place c diagnosis.Open g = g.goal

-- where a part of the outline stands in the text that is shown
abbrev pub shown_at : Rows → ℕ → ℕ
shown_at rows at = from_of (row_at rows at) at

-- and at the action of which it speaks
abbrev pub is_action : Rows → ℕ → Option ℕ → Bool
is_action rows at None = false
is_action rows at (Some action) = at == shown_at rows action

-- ---- the mark of a place

-- the finding on a condition with a number: one that is proved makes no mark
abbrev pub mark_of : ℕ → Diagnosis → Option Mark
mark_of n diagnosis.Proved = None
mark_of n (diagnosis.False block) = Some (mark.False n)
mark_of n diagnosis.Open = Some (mark.Open n)

abbrev pub after_open : ℕ → Mark → Mark
after_open k (mark.False n) = mark.False n
after_open k (mark.Open n) = mark.Open k

-- of two, the first one that is false, else the first one that is open
abbrev pub joined : Option Mark → Mark → Mark
joined None m = m
joined (Some (mark.False k)) m = mark.False k
joined (Some (mark.Open k)) m = after_open k m

abbrev pub with_mark : Option Mark → Option Mark → Option Mark
with_mark None old = old
with_mark (Some m) old = Some (joined old m)

-- where it has its place there
abbrev pub marked : Bool → Option Mark → Option Mark → Option Mark
marked false m old = old
marked true m old = with_mark m old

module _ (rows : Rows) where
  -- with a condition more
  abbrev pub with_diagnosis : ℕ → ℕ → Condition → Diagnosis → Target → Option Mark → Option Mark
  with_diagnosis at n c t g old =
      marked (is_action rows at c.action_at) (mark_of n t) (marked (at == shown_at rows (marked_place c t g)) (mark_of n t) old)

  -- with these, numbered on
  abbrev pub with_all : ℕ → Option Mark → ℕ → List Condition → List Diagnosis → List Target → Option Mark
  with_all at old n [] ts gs = old
  with_all at old n (c ∷ cs) [] gs = old
  with_all at old n (c ∷ cs) (t ∷ ts) [] = old
  with_all at old n (c ∷ cs) (t ∷ ts) (g ∷ gs) = with_all at (with_diagnosis at n c t g old) (n + 1) cs ts gs

  -- of the conditions that have their place at a byte offset, the first one that is false, else the first one that is open
  abbrev pub mark_at : List Condition → List Diagnosis → List Target → ℕ → Option Mark
  mark_at cs ts gs at = with_all at None 1 cs ts gs

-- ---- the words of the contracts of private functions

abbrev pub found : ℕ → BTreeMap ℕ Mark → Option Mark
found at marks = get_by (nat_cmp at) marks
