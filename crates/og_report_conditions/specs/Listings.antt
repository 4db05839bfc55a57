-- Listings of conditions, in each form.
use Rattle.std.specs.Prelude.{ℕ, suc, Bool, true, ◌==◌, if◌then◌else◌, List, [], ◌∷◌, Option, None, Some, option_map, Vec}
use Rattle.std.specs.Borrow.{Bor}
use Rattle.std.specs.Global.{Global}
use Rattle.std.specs.List.{list_any}
use Rattle.og_typed.specs.Syntax.{Program}
use Rattle.og_cond.specs.Condition.{Condition}
use Rattle.og_cond.specs.Conditions.{conditions}
use Rattle.og_report_text.specs.Listing as facts
use Rattle.og_report_text.specs.Places.{◌&◌}
use Rattle.og_report_conditions.specs.Script as script
use Rattle.og_report_conditions.specs.Triples.{triple_text}
use Rattle.og_report_conditions.specs.declared.form.Form.{Form}
use Rattle.og_report_conditions.specs.declared.form.Form.TheVariants as forms

-- what stands before the conditions
abbrev pub opening_text : Form → List (List ℕ) → List ℕ
opening_text forms.Facts names = []
opening_text forms.Triples names = []
opening_text forms.Script names = script.opening_text names

-- a condition with its number: with its facts, as a triple, or as a part of a script
abbrev pub condition_text : Form → List (List ℕ) → List ℕ → ℕ → Condition → List ℕ
condition_text forms.Facts names source n c = facts.condition_lines names source n c
condition_text forms.Triples names source n c = triple_text names source n c
condition_text forms.Script names source n c = script.condition_lines names source n c

-- numbers, where they are given
abbrev pub numbers_in : Option (Bor (List ℕ)) → Option (List ℕ)
numbers_in only = option_map (λ numbers. numbers.now) only

abbrev pub numbers_of : Option (Vec ℕ Global) → Option (List ℕ)
numbers_of only = option_map (λ numbers. numbers.items) only

-- this number is asked for; each is, where none are given
abbrev pub is_wanted : Option (List ℕ) → ℕ → Bool
is_wanted None n = true
is_wanted (Some numbers) n = list_any (λ m. m == n) numbers

module _ (form : Form) (only : Option (List ℕ)) (names : List (List ℕ)) (source : List ℕ) where
  abbrev pub wanted_text : ℕ → Condition → List ℕ
  wanted_text n c = if is_wanted only n then condition_text form names source n c else []

  -- those of these conditions that are asked for; the first one has this number
  abbrev pub wanted_lines : ℕ → List Condition → List ℕ
  wanted_lines n [] = []
  wanted_lines n (c ∷ cs) = wanted_text n c & wanted_lines (suc n) cs

-- the listing of an outline's conditions without those that are not asked for
abbrev pub listing_text : Form → Option (List ℕ) → Program → List ℕ → List ℕ
listing_text form only o source = opening_text form o.names & wanted_lines form only o.names source 1 (conditions o)
