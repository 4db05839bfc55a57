-- What a text means: an outline in its texts; and which words behind the text give starts of it.
use Rattle.std.specs.Prelude.{◌≡◌, ◌≤◌, ◌^◌, ℕ, List, [], length, map, Bool, true, false, Contains, is_some, IsSome, ⊤}
use Rattle.og_typed.specs.Source.{IsSource}
use Rattle.og_typed.specs.Refused.{IsSourceFault}
use Rattle.og_report_text.specs.Subject.{Subject, in_own_text}
use Rattle.og_template.specs.Front.{is_template}
use Rattle.og_template.specs.declared.tree.Constant.{Constant}
use Rattle.og_template_outline.specs.Expanded.{IsOutlineText}
use Rattle.og_template_outline.specs.Faults.{place_of_fault}
use Rattle.og_template_outline.specs.Words.{IsTaken}
use Rattle.og_template_outline.specs.declared.fault.MeaningError.{MeaningError}
use Rattle.og_template_outline.specs.declared.fault.MeaningError.TheVariants as errors
use Rattle.og_template_outline.specs.declared.meaning.Meaning.{Meaning}
use Rattle.og_template_outline.specs.declared.meaning.Meaning.TheVariants as meanings
use Rattle.og_template_outline.specs.declared.meaning.Reading.{Reading}
use Rattle.og_template_outline.specs.declared.meaning.Takes.{Takes}

-- ---- the outline

-- a template means the outline of another text, with places of the template; any other text its own
abbrev pub MeansBy : Bool → List ℕ → Subject → Type 0
MeansBy true text s =
    IsOutlineText s.own × IsSource s.own s.outline × (s.given ≡ text) × (is_some s.rows ≡ true)
MeansBy false text s = IsSource text s.outline × (s ≡ in_own_text s.outline text)

-- by the first word of the text
abbrev pub Means : List ℕ → Subject → Type 0
Means text s = MeansBy (is_template text) text s

-- the same of what was read
abbrev pub IsMeaningBy : Bool → List ℕ → Meaning → Type 0
IsMeaningBy true text (meanings.Source outline) = ⊥
IsMeaningBy true text (meanings.Template e) =
    (length text ≤ 2 ^ 20) × IsOutlineText e.text.items × IsSource e.text.items e.outline
IsMeaningBy false text (meanings.Source outline) = IsSource text outline
IsMeaningBy false text (meanings.Template e) = ⊥

abbrev pub IsMeaning : List ℕ → Meaning → Type 0
IsMeaning text meaning = IsMeaningBy (is_template text) text meaning

-- ---- the words

-- those that name no constant of a template, in their order; an outline has no constant, and no word
-- is to name one
abbrev pub GivesStartsBy : Bool → Takes → List (List ℕ) → List (List ℕ) → Type 0
GivesStartsBy true takes words starts =
    (constants : List Constant) × (naming : List (List ℕ))
    × IsTaken takes constants words naming starts
GivesStartsBy false takes words starts = IsTaken takes [] words [] starts

abbrev pub GivesStarts : Takes → List ℕ → List (List ℕ) → List (List ℕ) → Type 0
GivesStarts takes text words starts = GivesStartsBy (is_template text) takes words starts

-- one of the words that are to name constants
abbrev pub IsBadWord : Takes → List (List ℕ) → List ℕ → Type 0
IsBadWord takes words word =
    (constants : List Constant) × (naming starts : List (List ℕ))
    × IsTaken takes constants words naming starts × Contains naming word

-- ---- a text with its words

abbrev pub IsReadingBy : Bool → Takes → List ℕ → List (List ℕ) → Reading → Type 0
IsReadingBy template takes text words reading =
    IsMeaningBy template text reading.meaning
    × GivesStartsBy template takes words (map (λ w. w.now) reading.starts.items)

abbrev pub IsReading : Takes → List ℕ → List (List ℕ) → Reading → Type 0
IsReading takes text words reading = IsReadingBy (is_template text) takes text words reading

-- why a template means no outline
abbrev pub IsRefused : Takes → List (List ℕ) → MeaningError → Type 0
IsRefused takes words errors.Memory = ⊤
IsRefused takes words (errors.Source fault) = ⊥
IsRefused takes words (errors.Template fault) = ⊤
IsRefused takes words (errors.BadValue word) = IsBadWord takes words word.now

-- the first fault of a source; a fault of a template, which has no place in one that is too long; or
-- such a word; refused memory says nothing
abbrev pub IsNotMeantBy : Bool → Takes → List ℕ → List (List ℕ) → MeaningError → Type 0
IsNotMeantBy template takes text words errors.Memory = ⊤
IsNotMeantBy true takes text words (errors.Source fault) = ⊥
IsNotMeantBy false takes text words (errors.Source fault) = IsSourceFault text fault
IsNotMeantBy true takes text words (errors.Template fault) =
    IsSome (place_of_fault fault) → length text ≤ 2 ^ 20
IsNotMeantBy false takes text words (errors.Template fault) = ⊥
IsNotMeantBy template takes text words (errors.BadValue word) = IsBadWord takes words word.now

abbrev pub IsNotMeant : Takes → List ℕ → List (List ℕ) → MeaningError → Type 0
IsNotMeant takes text words error = IsNotMeantBy (is_template text) takes text words error
