-- The lines of those that are false from the cause of the condition before them.
use Rattle.std.specs.Prelude.{ℕ, zero, suc, ◌+◌, ◌==◌, List, [], ◌∷◌, length, take, filter_map, nat_lt, false, if◌then◌else◌, Option, Some, None, codes}
use Rattle.std.specs.Fmt.{decimal}
use Rattle.og_typed.specs.Plain.{noted}
use Rattle.og_typed.specs.declared.sites.Part.{Part}
use Rattle.og_typed.specs.declared.sites.Part.TheVariants as parts
use Rattle.og_report_text.specs.Places.{◌&◌}
use Rattle.og_report_text.specs.Origins.{Rows, place_text_at}
use Rattle.og_report_explain.specs.declared.actor.Actors.{Actors}
use Rattle.og_report_explain.specs.declared.explanation.Fault.{Fault}
use Rattle.og_report_explain.specs.declared.explanation.Fault.TheVariants as fault
use Rattle.og_report_prove.specs.Sentences.{part_text}
use Rattle.og_report_prove.specs.declared.diagnosis.Diagnosis.{Diagnosis}
use Rattle.og_report_prove.specs.declared.diagnosis.Diagnosis.TheVariants as diagnosis
use Rattle.og_report_findings.specs.Causes.{Item}
use Rattle.og_report_findings.specs.declared.places.Other.{Other}

-- ---- whose assertions they are

-- the number of the process of a part; the main process has the one after the last
abbrev pub number_of_part : ℕ → Option Part → ℕ
number_of_part main None = main
number_of_part main (Some parts.Prologue) = main
number_of_part main (Some (parts.Process p)) = p
number_of_part main (Some parts.Epilogue) = main

-- of interference the other process's; else that of who makes the step
abbrev pub owner_of : Option Part → Option Part → Option Part
owner_of (Some part) actor = Some part
owner_of None actor = actor

-- the false assertion, by whose it is and by its byte offset
abbrev pub other_of_fault : ℕ → Actors → Fault → Option Other
other_of_fault main actors (fault.False note found) =
    Some (record { process = number_of_part main (owner_of actors.other actors.actor); at = (noted note.now).at })
other_of_fault main actors (fault.TooLarge x v) = None
other_of_fault main actors (fault.Blocked stands) = None

abbrev pub other_of : ℕ → Diagnosis → Option Other
other_of main diagnosis.Proved = None
other_of main (diagnosis.False block) =
    other_of_fault main block.details.value.actors block.details.value.explanation.fault
other_of main diagnosis.Open = None

abbrev pub others_of : ℕ → List Item → List Other
others_of main = filter_map (λ i. other_of main i.entry.diagnosis)

-- the places of those of a process
abbrev pub is_of : ℕ → Other → Option ℕ
is_of p other = if other.process == p then Some other.at else None

abbrev pub places_of : ℕ → List Other → List ℕ
places_of p = filter_map (is_of p)

-- ---- the lines

abbrev pub assertions_word : ℕ → List ℕ
assertions_word count = if count == 1 then codes " more assertion of " else codes " more assertions of "

-- the part with this number, where there are so many processes
abbrev pub part_with : ℕ → ℕ → Part
part_with main p = if p == main then parts.Epilogue else parts.Process p

module _ (source : List ℕ) (rows : Rows) where
  -- this stands before the first
  abbrev pub places_from : List ℕ → List ℕ → List ℕ
  places_from opening [] = []
  places_from opening (at ∷ places) = (opening & place_text_at source rows at) & places_from (codes ", ") places

  -- at most eight of them
  abbrev pub places_text : List ℕ → List ℕ
  places_text places =
      places_from (codes ": ") (take 8 places) & (if nat_lt 8 (length places) then codes ", .." else [])

  -- nothing where there are none
  abbrev pub process_line : Part → List ℕ → List ℕ
  process_line part places =
      if length places == 0 then []
      else (codes "  and " & decimal (length places) & assertions_word (length places))
      & part_text false part & places_text places & codes "\n"

  -- of the processes from p on, of which n are left
  abbrev pub process_lines : ℕ → List Other → ℕ → ℕ → List ℕ
  process_lines main others p zero = []
  process_lines main others p (suc n) =
      process_line (part_with main p) (places_of p others) & process_lines main others (p + 1) n

  abbrev pub alike_lines : ℕ → List Item → List ℕ
  alike_lines main items =
      if length items == 0 then [] else process_lines main (others_of main items) 0 (main + 1)
