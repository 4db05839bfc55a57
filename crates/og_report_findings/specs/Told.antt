-- What the blocks of a report tell of: each condition that is not proved, once.
use Rattle.std.specs.Prelude.{◌≡◌, ℕ, ◌+◌, List, [], ◌∷◌, length, flat_map, sum_by, count_by, IsPermutation, AllPairs}
use Rattle.og_cond.specs.Condition.{Condition}
use Rattle.og_report_text.specs.Origins.{Rows}
use Rattle.og_report_prove.specs.Report.{is_proved, is_false, is_open}
use Rattle.og_report_prove.specs.declared.diagnosis.Diagnosis.{Diagnosis}
use Rattle.og_report_runs.specs.declared.witness.Run.{Run}
use Rattle.og_report_findings.specs.Causes.{Item, shown, groups}
use Rattle.og_report_findings.specs.Entries.{Entry, unproved_from}
use Rattle.og_report_findings.specs.Order.{in_order, StandsBefore, IsInOrder}

-- the first of a group, which has the head
abbrev pub head_of : List Item → List Entry
head_of [] = []
head_of (i ∷ others) = i.entry ∷ []

abbrev pub heads : List (List Item) → List Entry
heads = flat_map head_of

-- those of all groups
abbrev pub told : List (List Item) → List Item
told = flat_map (λ g. g)

-- how many conditions one stands for
abbrev pub stands_for : Item → ℕ
stands_for i = i.more + 1

-- the blocks of conditions in this order
pub record AreBlocks (rows : Rows) (ordered : List Entry) (gs : List (List Item)) : Type 0 where
  -- those that differ in more than their instances, each once
  pub once : IsPermutation (shown rows ordered) (told gs)
  -- the heads stand in the order
  pub before : AllPairs StandsBefore (heads gs)
  -- and all are counted
  pub counted : sum_by stands_for (told gs) ≡ length ordered

-- each condition is proved, false or open, and those that are not proved are these
pub record AreCounted (ts : List Diagnosis) (es : List Entry) : Type 0 where
  pub all : count_by is_proved ts + (count_by is_false ts + count_by is_open ts) ≡ length ts
  pub unproved : length es ≡ count_by is_false ts + count_by is_open ts

module _ (names : List (List ℕ)) (source : List ℕ) (rows : Rows) where
  -- the conditions that are not proved stand in order, and have their blocks
  pub record AreTold (cs : List Condition) (ts : List Diagnosis) (rs : List Run) : Type 0 where
    pub count : AreCounted ts (unproved_from 1 cs ts rs)
    pub order : IsInOrder (unproved_from 1 cs ts rs) (in_order (unproved_from 1 cs ts rs))
    pub blocks : AreBlocks rows (in_order (unproved_from 1 cs ts rs)) (groups names source rows (shown rows (in_order (unproved_from 1 cs ts rs))))
