-- Which conditions have a head of their own, and which are told with one of these.
use Rattle.std.specs.Prelude.{◌≡◌, ℕ, zero, suc, ◌+◌, List, [], ◌∷◌, ◌++◌, map, Bool, false, Option, Some, None, if◌then◌else◌, Vec}
use Rattle.std.specs.Global.{Global}
use Rattle.std.specs.BTreeMap.{BTreeMap}
use Rattle.og_typed.specs.Syntax.{Formula}
use Rattle.og_cert_read.specs.Firsts.{found}
use Rattle.og_report_text.specs.Origins.{Rows}
use Rattle.og_report_prove.specs.Effects.{effect_of, effect_text}
use Rattle.og_report_prove.specs.Together.{key_of, has_key, repeats}
use Rattle.og_report_prove.specs.declared.diagnosis.Diagnosis.{Diagnosis}
use Rattle.og_report_prove.specs.declared.diagnosis.Diagnosis.TheVariants as diagnosis
use Rattle.og_report_findings.specs.Entries.{Entry, entry_of}
use Rattle.og_report_findings.specs.declared.shown.Item.{Item as Given}

-- ---- instances

-- a condition, and how many more differ from it in their instances alone
pub record Item : Type 0 where
  pub entry : Entry
  pub more : ℕ

abbrev pub item_of : Given → Item
item_of i = record { entry = entry_of i.entry; more = i.more }

abbrev pub keys_of : Rows → List Entry → List (Option (List ℕ))
keys_of rows = map (λ e. key_of rows e.condition e.diagnosis)

-- nothing of one that is with an earlier one
abbrev pub if_shown : Entry → Option ℕ → List Item
if_shown e None = []
if_shown e (Some more) = record { entry = e; more = more } ∷ []

abbrev pub with_more : List Entry → List (Option ℕ) → List Item
with_more [] ms = []
with_more (e ∷ es) [] = []
with_more (e ∷ es) (m ∷ ms) = if_shown e m ++ with_more es ms

abbrev pub shown : Rows → List Entry → List Item
shown rows es = with_more es (repeats (keys_of rows es))

-- ---- causes

abbrev pub groups_of : List (Vec Given Global) → List (List Item)
groups_of = map (λ g. map item_of g.items)

module _ (names : List (List ℕ)) (source : List ℕ) (rows : Rows) where
  abbrev pub text_of_effect : Option (ℕ × List Formula) → Option (List ℕ)
  text_of_effect None = None
  text_of_effect (Some effect) = Some (effect_text names source rows effect)

  -- the place of the action and the conjuncts that it makes false, as a text; none where no action makes an assertion false
  abbrev pub cause_of : Diagnosis → Option (List ℕ)
  cause_of diagnosis.Proved = None
  cause_of (diagnosis.False block) =
      text_of_effect (effect_of block.details.value.explanation.action block.details.value.explanation.fault)
  cause_of diagnosis.Open = None

  abbrev pub has_cause : List ℕ → Item → Bool
  has_cause text i = has_key text (cause_of i.entry.diagnosis)

  -- the group was begun by one with the cause
  abbrev pub is_of_cause : List ℕ → List Item → Bool
  is_of_cause text [] = false
  is_of_cause text (first ∷ others) = has_cause text first

  -- behind those of the first group that its cause began; else one more group
  abbrev pub joined : List ℕ → Item → List (List Item) → List (List Item)
  joined text i [] = (i ∷ []) ∷ []
  joined text i (g ∷ gs) = if is_of_cause text g then (g ++ i ∷ []) ∷ gs else g ∷ joined text i gs

  -- one without a cause alone
  abbrev pub with_item : Option (List ℕ) → Item → List (List Item) → List (List Item)
  with_item None i gs = gs ++ (i ∷ []) ∷ []
  with_item (Some text) i gs = joined text i gs

  -- one after another
  abbrev pub groups_from : List (List Item) → List Item → List (List Item)
  groups_from gs [] = gs
  groups_from gs (i ∷ later) = groups_from (with_item (cause_of i.entry.diagnosis) i gs) later

  abbrev pub groups : List Item → List (List Item)
  groups = groups_from []

  -- ---- the words of the contracts of private functions

  -- the number of the group that the cause began, counted on from n
  abbrev pub place_from : ℕ → List ℕ → List (List Item) → Option ℕ
  place_from n text [] = None
  place_from n text (g ∷ gs) = if is_of_cause text g then Some n else place_from (n + 1) text gs

  -- it is known of each cause which group it began
  abbrev pub AreKnown : BTreeMap (Vec ℕ Global) ℕ → List (List Item) → Type 0
  AreKnown firsts gs = (t : List ℕ) → found t firsts ≡ place_from 0 t gs

-- behind the group with this number
abbrev pub pushed_at : ℕ → Item → List (List Item) → List (List Item)
pushed_at k i [] = []
pushed_at zero i (g ∷ gs) = (g ++ i ∷ []) ∷ gs
pushed_at (suc k) i (g ∷ gs) = g ∷ pushed_at k i gs
