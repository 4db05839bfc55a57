-- The report of a condition, and the totals, as JSON: the members of each object stand in the order of their bytes.
use Rattle.std.specs.Prelude.{ℕ, true, false, List, length, count_by, map, codes, Option, Some, None, option_map}
use Rattle.serde_json.specs.Data.{Data, Members, string, boolean, array, object, member, no_members}
use Rattle.serde_json.specs.View.{items_of}
use Rattle.og_report_text.specs.Numbers.{natural}
use Rattle.og_text.specs.Place.{line_at, column_at}
use Rattle.og_typed.specs.Syntax.{Formula, Noted}
use Rattle.og_typed.specs.Plain.{noted, formula}
use Rattle.og_typed.specs.declared.assertion.Assert.{Assert}
use Rattle.og_cond.specs.Condition.{Condition}
use Rattle.og_cond.specs.Names.{name_of_kind}
use Rattle.og_typed.specs.declared.sites.StatementSite.{StatementSite}
use Rattle.og_report_text.specs.Assertions.{assertion_text}
use Rattle.og_report_explain.specs.declared.explanation.Fault.{Fault}
use Rattle.og_report_explain.specs.declared.explanation.Fault.TheVariants as fault
use Rattle.og_report_prove.specs.declared.block.Block.{Block}
use Rattle.og_report_prove.specs.declared.diagnosis.Diagnosis.{Diagnosis}
use Rattle.og_report_prove.specs.declared.diagnosis.Diagnosis.TheVariants as diagnosis
use Rattle.og_report_prove.specs.Report.{is_proved, is_false, is_open, is_safe, is_unblocked}
use Rattle.og_report_prove.specs.Ends.{end_of}
use Rattle.og_report_prove.specs.Members.{utf8_text, digits_data, if_some, name_of, with_values}
use denote.Ref.{Bor}

abbrev pub status_word : Diagnosis → List ℕ
status_word diagnosis.Proved = codes "proved"
status_word (diagnosis.False block) = codes "false"
status_word diagnosis.Open = codes "open"

-- the report of a false condition alone
abbrev pub of_block : (Block → Option Data) → Diagnosis → Option Data
of_block told_of diagnosis.Proved = None
of_block told_of (diagnosis.False block) = told_of block
of_block told_of diagnosis.Open = None

-- where an assertion is false after an action
abbrev pub after_of : Fault → Option StatementSite → Data → Option Data
after_of (fault.False note found) None after = None
after_of (fault.False note found) (Some site) after = Some after
after_of (fault.TooLarge x v) action after = None
after_of (fault.Blocked stands) action after = None

-- the totals, with the conditions that are not proved
abbrev pub totals_data : List Diagnosis → Data → Data
totals_data ts unproved = object
    (member (codes "conditions") (natural (length ts))
    (member (codes "false") (natural (count_by is_false ts))
    (member (codes "open") (natural (count_by is_open ts))
    (member (codes "proved") (natural (count_by is_proved ts))
    (member (codes "safe") (boolean (is_safe ts))
    (member (codes "unblocked") (boolean (is_unblocked ts))
    (member (codes "unproved") unproved no_members)))))))

-- ---- a false condition

module _ (names : List (List ℕ)) where
  abbrev pub state_data : Block → Data
  state_data block = object
      (with_values names true block.values block.details.value.besides.items
      (with_values names true block.values block.details.value.state.items no_members))

  -- what the action assigns
  abbrev pub after_data : Block → Data
  after_data block = object (with_values names false block.details.value.explanation.after block.details.value.assigned.items no_members)

  abbrev pub conjunct_data : Formula → Data
  conjunct_data a = string (utf8_text (assertion_text names a))

  abbrev pub too_large_of : Fault → Option Data
  too_large_of (fault.False note found) = None
  too_large_of (fault.TooLarge x v) = Some (object (member (name_of names x) (digits_data v) no_members))
  too_large_of (fault.Blocked stands) = None

  abbrev pub state_member : Diagnosis → Option Data
  state_member = of_block (λ block. Some (state_data block))

  abbrev pub after_member : Diagnosis → Option Data
  after_member = of_block (λ block. after_of block.details.value.explanation.fault block.details.value.explanation.action (after_data block))

  abbrev pub too_large_member : Diagnosis → Option Data
  too_large_member = of_block (λ block. too_large_of block.details.value.explanation.fault)

  -- the state and the status
  abbrev pub last_members : Diagnosis → Members
  last_members t = if_some (codes "state") (state_member t)
      (member (codes "status") (string (status_word t))
      (if_some (codes "too_large") (too_large_member t) no_members))

module _ (names : List (List ℕ)) (source : List ℕ) where
  -- the false conjuncts of an assertion
  abbrev pub conjuncts_data : Noted → List (Bor Assert) → Data
  conjuncts_data note found = object
      (member (codes "column") (natural (column_at source note.at))
      (member (codes "conjuncts") (array (items_of (map (λ a. conjunct_data names (formula a.now)) found)))
      (member (codes "end_column") (natural (column_at source (end_of source note.at)))
      (member (codes "end_line") (natural (line_at source (end_of source note.at)))
      (member (codes "line") (natural (line_at source note.at)) no_members)))))

  abbrev pub false_of : Fault → Option Data
  false_of (fault.False note found) = Some (conjuncts_data (noted note.now) found.items)
  false_of (fault.TooLarge x v) = None
  false_of (fault.Blocked stands) = None

  abbrev pub false_member : Diagnosis → Option Data
  false_member = of_block (λ block. false_of block.details.value.explanation.fault)

  -- ---- a condition that is not proved

  -- the place, the number, the kind and the false conjuncts
  abbrev pub middle_members : ℕ → Condition → Diagnosis → Members
  middle_members n c t = member (codes "column") (natural (column_at source c.at))
      (member (codes "condition") (natural n)
      (member (codes "end_column") (natural (column_at source (end_of source c.at)))
      (member (codes "end_line") (natural (line_at source (end_of source c.at)))
      (if_some (codes "false") (false_member t)
      (member (codes "kind") (string (name_of_kind c.kind))
      (member (codes "line") (natural (line_at source c.at)) (last_members names t)))))))

  -- the n-th condition
  abbrev pub diagnosis_data : ℕ → Condition → Diagnosis → Data
  diagnosis_data n c t = object
      (if_some (codes "action_column") (option_map (λ at. natural (column_at source at)) c.action_at)
      (if_some (codes "action_end_column") (option_map (λ at. natural (column_at source (end_of source at))) c.action_at)
      (if_some (codes "action_end_line") (option_map (λ at. natural (line_at source (end_of source at))) c.action_at)
      (if_some (codes "action_line") (option_map (λ at. natural (line_at source at)) c.action_at)
      (if_some (codes "after") (after_member names t) (middle_members n c t))))))
