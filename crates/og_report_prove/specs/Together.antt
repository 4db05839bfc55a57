-- False conditions of a template's outline that differ in their instances alone: they are reported together.
use Rattle.std.specs.Prelude.{ℕ, zero, suc, ◌+◌, ◌-◌, ◌==◌, List, [], ◌∷◌, ◌++◌, Bool, true, false, if◌then◌else◌, Option, Some, None, option_map, unwrap_or, slice_get, count_by, Vec, codes}
use Rattle.std.specs.Global.{Global}
use Rattle.std.specs.Fmt.{decimal}
use Rattle.std.specs.List.{list_any}
use Rattle.std.specs.Str.{bytes_eq}
use Rattle.og_typed.specs.Plain.{noted}
use Rattle.og_cond.specs.Condition.{Condition}
use Rattle.og_cond.specs.Names.{name_of_kind}
use Rattle.og_report_text.specs.Places.{◌&◌}
use Rattle.og_report_text.specs.Origins.{Rows, row_at, from_of}
use Rattle.og_report_text.specs.declared.row.Row.{Row}
use Rattle.og_report_explain.specs.declared.explanation.Fault.{Fault}
use Rattle.og_report_explain.specs.declared.explanation.Fault.TheVariants as fault
use Rattle.og_report_prove.specs.declared.block.Block.{Block}
use Rattle.og_report_prove.specs.declared.diagnosis.Diagnosis.{Diagnosis}
use Rattle.og_report_prove.specs.declared.diagnosis.Diagnosis.TheVariants as diagnosis

-- ---- where conjuncts come from

abbrev pub or_none : Option (Option ℕ) → Option ℕ
or_none None = None
or_none (Some at) = at

-- the byte offset in the template of the conjunct with this number, where it has one
abbrev pub conjunct_at : Option Row → ℕ → Option ℕ
conjunct_at None n = None
conjunct_at (Some row) n = or_none (slice_get row.conjuncts.items n)

-- one place more, if it is not among these
abbrev pub with_place : Option ℕ → List ℕ → List ℕ
with_place None places = places
with_place (Some at) places = if list_any (λ p. p == at) places then places else places ++ at ∷ []

-- the places of conjuncts behind these, each once
abbrev pub with_places : Option Row → List ℕ → List ℕ → List ℕ
with_places row places [] = places
with_places row places (n ∷ ns) = with_places row (with_place (conjunct_at row n) places) ns

-- those of the false conjuncts
abbrev pub false_places : Rows → Fault → List ℕ → List ℕ
false_places rows (fault.False note found) numbers = with_places (row_at rows (noted note.now).at) [] numbers
false_places rows (fault.TooLarge x v) numbers = []
false_places rows (fault.Blocked stands) numbers = []

-- ---- which conditions are reported together

abbrev pub places_key : List ℕ → List ℕ
places_key [] = []
places_key (p ∷ ps) = codes " " & decimal p & places_key ps

abbrev pub action_key : Rows → Option ℕ → List ℕ
action_key rows None = []
action_key rows (Some at) = codes " with " & decimal (from_of (row_at rows at) at)

-- the place in the template, the kind, the place of the action, and those of the false conjuncts: conditions in which they are the same are reported together
abbrev pub key_text : Rows → Condition → Block → List ℕ
key_text rows c block =
    decimal (from_of (row_at rows c.at) c.at) & codes " " & name_of_kind c.kind & action_key rows c.action_at
    & places_key (false_places rows block.details.value.explanation.fault block.details.value.conjuncts.items)

-- of the finding on a condition: of an outline in its own text, and of proved and open ones, nothing is reported together
abbrev pub key_of : Rows → Condition → Diagnosis → Option (List ℕ)
key_of None c t = None
key_of (Some rows) c diagnosis.Proved = None
key_of (Some rows) c (diagnosis.False block) = Some (key_text (Some rows) c block)
key_of (Some rows) c diagnosis.Open = None

abbrev pub has_key : List ℕ → Option (List ℕ) → Bool
has_key key None = false
has_key key (Some other) = bytes_eq key other

-- of one among all, behind these: how many more are reported with it, or none where it is reported with an earlier one
abbrev pub more_of : List (Option (List ℕ)) → List (Option (List ℕ)) → Option (List ℕ) → Option ℕ
more_of all before None = Some 0
more_of all before (Some key) = if list_any (has_key key) before then None else Some (count_by (has_key key) all - 1)

abbrev pub repeats_from : List (Option (List ℕ)) → List (Option (List ℕ)) → List (Option (List ℕ)) → List (Option ℕ)
repeats_from all before [] = []
repeats_from all before (k ∷ ks) = more_of all before k ∷ repeats_from all (before ++ k ∷ []) ks

abbrev pub repeats : List (Option (List ℕ)) → List (Option ℕ)
repeats keys = repeats_from keys [] keys

-- how many conditions are reported with one: itself and these, or none
abbrev pub told : Option ℕ → ℕ
told None = 0
told (Some more) = more + 1

-- ---- the conditions shown

-- nothing of one that is reported with an earlier one, as of one that is proved
abbrev pub shown : Option ℕ → Diagnosis → Diagnosis
shown None t = diagnosis.Proved
shown (Some more) t = t

abbrev pub more_text : ℕ → List ℕ
more_text more = if more == 0 then [] else codes " (and " & decimal more & codes " more)"

-- ---- the words of the contracts of private functions

-- the bytes of a key
abbrev pub key_seen : Option (Vec ℕ Global) → Option (List ℕ)
key_seen key = option_map (λ k. k.items) key

-- a number, or none for 0
abbrev pub total : ℕ → Option ℕ
total zero = None
total (suc n) = Some (suc n)

-- one more, or the same
abbrev pub counted : Bool → Option ℕ → Option ℕ
counted true number = Some (unwrap_or number 0 + 1)
counted false number = number

-- how often a key occurs among all; none once it is among those before
abbrev pub left_of : List (Option (List ℕ)) → List (Option (List ℕ)) → List ℕ → Option ℕ
left_of all before key = if list_any (has_key key) before then None else total (count_by (has_key key) all)

-- how many more are reported, where it is known how often each key is left
abbrev pub more_left : (List ℕ → Option ℕ) → Option (List ℕ) → Option ℕ
more_left left None = Some 0
more_left left (Some key) = option_map (λ n. n - 1) (left key)

-- a key is taken out, or not
abbrev pub without : Bool → Option ℕ → Option ℕ
without true number = None
without false number = number
