-- The report of a condition, and the totals.
use Rattle.std.specs.Prelude.{ℕ, ◌-◌, List, [], length, count_by, take, slice_get, Bool, true, false, Option, Some, None, codes}
use Rattle.std.specs.Fmt.{decimal}
use Rattle.std.specs.List.{list_all}
use Rattle.og_typed.specs.Syntax.{Formula}
use Rattle.og_cond.specs.Condition.{Condition}
use Rattle.og_cond.specs.Names.{name_of_kind}
use Rattle.og_report_text.specs.Places.{◌&◌}
use Rattle.og_report_text.specs.Origins.{Rows, place_text_at, with_place_text}
use Rattle.og_report_prove.specs.Blocks.{block_text}
use Rattle.og_report_prove.specs.Effects.{effect_of, effect_text, alike_line}
use Rattle.og_report_prove.specs.Together.{more_text}
use Rattle.og_report_prove.specs.declared.block.Block.{Block}
use Rattle.og_report_prove.specs.declared.diagnosis.Diagnosis.{Diagnosis}
use Rattle.og_report_prove.specs.declared.diagnosis.Diagnosis.TheVariants as diagnosis

-- and how many more are reported with it
abbrev pub head_text : List ℕ → Rows → ℕ → Condition → List ℕ → ℕ → List ℕ
head_text source rows n c word more =
    place_text_at source rows c.at & codes ": condition " & decimal n & codes " " & name_of_kind c.kind
    & with_place_text source rows c.action_at & codes ": " & word & more_text more & codes "\n"

-- ---- totals

abbrev pub is_proved : Diagnosis → Bool
is_proved diagnosis.Proved = true
is_proved (diagnosis.False block) = false
is_proved diagnosis.Open = false

abbrev pub is_false : Diagnosis → Bool
is_false diagnosis.Proved = false
is_false (diagnosis.False block) = true
is_false diagnosis.Open = false

abbrev pub is_open : Diagnosis → Bool
is_open diagnosis.Proved = false
is_open (diagnosis.False block) = false
is_open diagnosis.Open = true

-- every condition but the last is proved
abbrev pub is_safe : List Diagnosis → Bool
is_safe ts = list_all is_proved (take (length ts - 1) ts)

abbrev pub is_there_and_proved : Option Diagnosis → Bool
is_there_and_proved None = false
is_there_and_proved (Some t) = is_proved t

-- the last one is
abbrev pub is_unblocked : List Diagnosis → Bool
is_unblocked ts = is_there_and_proved (slice_get ts (length ts - 1))

abbrev pub yes_or_no : Bool → List ℕ
yes_or_no true = codes "yes\n"
yes_or_no false = codes "no\n"

abbrev pub yes_line : List ℕ → Bool → List ℕ
yes_line word is = word & codes ": " & yes_or_no is

-- a word and a number
abbrev pub number_line : List ℕ → ℕ → List ℕ
number_line word n = word & codes ": " & decimal n & codes "\n"

abbrev pub totals_text : List Diagnosis → List ℕ
totals_text ts =
    number_line (codes "conditions") (length ts) & number_line (codes "proved") (count_by is_proved ts)
    & number_line (codes "false") (count_by is_false ts) & number_line (codes "open") (count_by is_open ts)
    & yes_line (codes "safe") (is_safe ts) & yes_line (codes "unblocked") (is_unblocked ts)

-- ---- a condition

module _ (names : List (List ℕ)) (source : List ℕ) (rows : Rows) where
  -- the block, or that the condition is as an earlier one
  abbrev pub alike_or_block : Option ℕ → List Formula → Block → List ℕ
  alike_or_block None found block = block_text names source rows block
  alike_or_block (Some k) found block = alike_line names k found

  -- where it is known which conditions had an effect before
  abbrev pub effect_or_block : (List ℕ → Option ℕ) → Option (ℕ × List Formula) → Block → List ℕ
  effect_or_block known None block = block_text names source rows block
  effect_or_block known (Some effect) block = alike_or_block (known (effect_text names source rows effect)) effect.1 block

  abbrev pub body_text : (List ℕ → Option ℕ) → Block → List ℕ
  body_text known block = effect_or_block known (effect_of block.details.value.explanation.action block.details.value.explanation.fault) block

  -- nothing of a condition that is proved
  abbrev pub one_text : (List ℕ → Option ℕ) → ℕ → Condition → ℕ → Diagnosis → List ℕ
  one_text known n c more diagnosis.Proved = []
  one_text known n c more (diagnosis.False block) = head_text source rows n c (codes "false") more & body_text known block
  one_text known n c more diagnosis.Open = head_text source rows n c (codes "open") more

  -- and of one that is reported with an earlier one
  abbrev pub diagnosis_text : (List ℕ → Option ℕ) → ℕ → Condition → Option ℕ → Diagnosis → List ℕ
  diagnosis_text known n c None t = []
  diagnosis_text known n c (Some more) t = one_text known n c more t
