-- The lines of steps with more than one access to variables that other processes use.
use Rattle.std.specs.Prelude.{ℕ, ◌+◌, ◌==◌, ◌&&◌, nat_lt, Bool, true, List, [], length, flat_map, if◌then◌else◌, codes, Option, Some, None}
use Rattle.og_typed.specs.Syntax.{Statement}
use Rattle.og_report_text.specs.Origins.{Rows, place_text_at}
use Rattle.og_report_text.specs.Places.{◌&◌}
use Rattle.og_report_text.specs.Values.{names_text}
use Rattle.og_review_text.specs.Steps.{Step, accessed}
use Rattle.og_review_text.specs.Idioms.{idiom_of}
use Rattle.og_review_text.specs.declared.idioms.Idiom.{Idiom}
use Rattle.og_review_text.specs.declared.idioms.Idiom.TheVariants as idioms
use Rattle.og_review_text.specs.declared.steps.Access.{Access}
use Rattle.og_review_text.specs.declared.steps.Access.TheVariants as access

-- ---- words

abbrev pub access_text : Access → List ℕ
access_text access.ReadsAndWrites = codes "reads and writes "
access_text access.Reads = codes "reads "
access_text access.Writes = codes "writes "

abbrev pub idiom_text : Idiom → List ℕ
idiom_text idioms.FetchAndAdd = codes " (fetch and add)"
idiom_text idioms.TestAndSet = codes " (test and set)"
idiom_text idioms.Swap = codes " (swap)"
idiom_text idioms.CompareAndSwap = codes " (compare and swap)"

-- ---- one step

-- variables that a step both reads and writes, that it reads alone, and that it writes alone are at most one access
abbrev pub are_one : List ℕ → List ℕ → List ℕ → Bool
are_one both reads writes = length both == 0 && nat_lt (length reads + length writes) 2

-- a way to use variables, where there are some
abbrev pub access_part : List (List ℕ) → Bool → Access → List ℕ → List ℕ
access_part names first way vars =
    if length vars == 0 then [] else (if first then codes " " else codes "; ") & access_text way & names_text names [] vars

abbrev pub accesses_text : List (List ℕ) → List ℕ → List ℕ → List ℕ → List ℕ
accesses_text names both reads writes =
    access_part names true access.ReadsAndWrites both
    & access_part names (length both == 0) access.Reads reads
    & access_part names (length both == 0 && length reads == 0) access.Writes writes

abbrev pub idiom_name : Option Idiom → List ℕ
idiom_name None = []
idiom_name (Some idiom) = idiom_text idiom

-- the idiom of a step that reads and writes these variables and has no other access
abbrev pub idiom_part : ℕ → List ℕ → List ℕ → List ℕ → Statement → List ℕ
idiom_part n both reads writes stmt =
    if length reads == 0 && length writes == 0 then idiom_name (idiom_of n both stmt) else []

-- in a text, of a template with these rows, where variables from n on are auxiliaries
module _ (source : List ℕ) (rows : Rows) (names : List (List ℕ)) (n : ℕ) where
  -- a step with these accesses, where they are more than one
  abbrev pub accesses_line : Step → List ℕ → List ℕ → List ℕ → List ℕ
  accesses_line step both reads writes =
      if are_one both reads writes
      then []
      else codes "step at " & place_text_at source rows step.at & accesses_text names both reads writes & idiom_part n both reads writes step.stmt & codes "\n"

  -- one of these steps, by its accesses to variables below n
  abbrev pub step_line : List Step → Step → List ℕ
  step_line all step =
      accesses_line step (accessed all n step access.ReadsAndWrites) (accessed all n step access.Reads) (accessed all n step access.Writes)

  abbrev pub step_lines : List Step → List ℕ
  step_lines all = flat_map (step_line all) all
