-- The listing of conditions with their facts.
use Rattle.std.specs.Prelude.{◌≡◌, ◌<◌, ◌≤◌, ◌==◌, ◌&&◌, ℕ, suc, ℤ, pos, negsuc, nat_abs, Bool, true, false, not, if◌then◌else◌, List, [], ◌∷◌, length, slice_get, Option, Some, None, is_none, codes, Result, Ok, Err, Vec}
use Rattle.std.specs.Fmt.{decimal}
use Rattle.std.specs.Global.{Global}
use Rattle.og_linear.specs.Linear.{Terms, FormValue}
use Rattle.og_typed.specs.Syntax.{Program}
use Rattle.og_cond.specs.Condition.{Condition}
use Rattle.og_cond.specs.Conditions.{conditions}
use Rattle.og_cond.specs.Names.{name_of_kind}
use Rattle.og_cond.specs.declared.fault.ConditionsError.{ConditionsError}
use Rattle.og_cond.specs.declared.fault.ConditionsError.TheVariants as errors
use Rattle.og_facts.specs.Facts.{Fact, Atom, Split, Parts, no_part, part, Facts, no_fact, fact, facts_of}
use Rattle.og_facts.specs.declared.fault.FactsFault.{FactsFault}
use Rattle.og_report_text.specs.Places.{◌&◌, position_of, position_text, with_text}

-- the places of a condition
abbrev pub places_text : List ℕ → Condition → List ℕ
places_text source c = codes " at " & position_text (position_of source c.at) & with_text source c.action_at & codes "\n"

-- its number, its kind and its places
abbrev pub header_text : List ℕ → ℕ → Condition → List ℕ
header_text source n c = codes "cond " & decimal n & codes " " & name_of_kind c.kind & places_text source c

-- ---- forms

-- the sign before the first number, and before each other one
abbrev pub sign_text : Bool → ℤ → List ℕ
sign_text true (pos n) = []
sign_text true (negsuc n) = codes "-"
sign_text false (pos n) = codes " + "
sign_text false (negsuc n) = codes " - "

abbrev pub name_text : Option (List ℕ) → List ℕ
name_text None = []
name_text (Some name) = name

-- x for 1*x
abbrev pub factor_text : ℕ → List ℕ
factor_text n = if n == 1 then [] else decimal n & codes "*"

-- the constant after the terms, unless it is 0 and there are terms
abbrev pub constant_text : Bool → ℤ → List ℕ
constant_text first c = if nat_abs c == 0 && not first then [] else sign_text first c & decimal (nat_abs c)

-- the names of the variables, by number
module _ (names : List (List ℕ)) where
  abbrev pub times_text : ℕ → ℕ → List ℕ
  times_text n x = factor_text n & name_text (slice_get names x)

  abbrev pub terms_text : Bool → Terms → List ℕ
  terms_text first [] = []
  terms_text first (t ∷ ts) = sign_text first t.1 & times_text (nat_abs t.1) t.0 & terms_text false ts

  abbrev pub form_text : FormValue → List ℕ
  form_text f = terms_text true f.terms & constant_text (is_none (slice_get f.terms 0)) f.constant

  -- ---- facts

  abbrev mutual
    pub fact_text : Fact → List ℕ
    fact_text (Atom f) = form_text f & codes " <= 0"
    fact_text (Split parts) = parts_text (codes "(") parts

    -- parts in parentheses, with ` or ` between any two; this opens the first one
    pub parts_text : List ℕ → Parts → List ℕ
    parts_text opening no_part = []
    parts_text opening (part p others) = opening & part_text p & codes ")" & parts_text (codes " or (") others

    -- facts, with ` and ` between any two
    pub part_text : Facts → List ℕ
    part_text no_fact = codes "true"
    part_text (fact f others) = inner_text f & later_facts_text others

    pub later_facts_text : Facts → List ℕ
    later_facts_text no_fact = []
    later_facts_text (fact f others) = codes " and " & inner_text f & later_facts_text others

    -- a fact of a part: a split in parentheses
    pub inner_text : Fact → List ℕ
    inner_text (Atom f) = form_text f & codes " <= 0"
    inner_text (Split parts) = codes "(" & parts_text (codes "(") parts & codes ")"

  -- ---- conditions

  -- a line for each fact, numbered on
  abbrev pub facts_lines : ℕ → List Fact → List ℕ
  facts_lines n [] = []
  facts_lines n (f ∷ fs) = codes "  " & decimal n & codes ": " & fact_text f & codes "\n" & facts_lines (suc n) fs

  abbrev pub answer_lines : Result (List Fact) FactsFault → List ℕ
  answer_lines (Ok fs) = facts_lines 1 fs
  answer_lines (Err fault) = codes "  too large\n"

  -- a condition and its facts
  abbrev pub condition_lines : List ℕ → ℕ → Condition → List ℕ
  condition_lines source n c = header_text source n c & answer_lines (facts_of c)

  -- conditions, numbered on
  abbrev pub conditions_lines : List ℕ → ℕ → List Condition → List ℕ
  conditions_lines source n [] = []
  conditions_lines source n (c ∷ cs) = condition_lines source n c & conditions_lines source (suc n) cs

-- the conditions of an outline, numbered from 1; or that there are too many; or memory ran out, and there are not too many
abbrev pub IsListing : ℕ → Program → List ℕ → Result (Vec ℕ Global) ConditionsError → Type 0
IsListing limit o source (Ok text) = (text.items ≡ conditions_lines o.names source 1 (conditions o)) × (length (conditions o) ≤ limit)
IsListing limit o source (Err (errors.Fault fault)) = limit < length (conditions o)
IsListing limit o source (Err errors.Memory) = length (conditions o) ≤ limit
