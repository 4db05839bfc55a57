-- The answer to a request for the conditions of a source.
use Rattle.std.specs.Prelude.{◌≡◌, ◌≤◌, ◌<◌, ◌&&◌, ◌⊎◌, ℕ, Bool, true, nat_le, not, List, length, find, Option, None, Some, codes, Result, Ok, Err, ⊤}
use Rattle.std.specs.Borrow.{Bor}
use Rattle.std.specs.Fmt.{decimal}
use Rattle.std.specs.List.{list_all}
use Rattle.og_typed.specs.Syntax.{Program}
use Rattle.og_cond.specs.Conditions.{conditions}
use Rattle.og_cond.specs.Limits.{condition_limit}
use Rattle.og_cond.specs.declared.fault.ConditionsError.{ConditionsError}
use Rattle.og_cond.specs.declared.fault.ConditionsError.TheVariants as errors
use Rattle.og_report_text.specs.Places.{◌&◌}
use Rattle.og_io.specs.Numbers.{AreNumbers}
use Rattle.og_report_conditions.specs.Listings.{listing_text}
use Rattle.og_report_conditions.specs.declared.form.Form.{Form}
use Rattle.og_report_conditions.specs.declared.choosing.Reply.{Reply}
use Rattle.og_report_conditions.specs.declared.choosing.Reply.TheVariants as replies

-- one of this many conditions has this number
abbrev pub is_number : ℕ → ℕ → Bool
is_number count n = nat_le 1 n && nat_le n count

-- there are too many conditions; or memory ran out
abbrev pub IsWhyNot : Program → ConditionsError → Type 0
IsWhyNot o (errors.Fault fault) = condition_limit < length (conditions o)
IsWhyNot o errors.Memory = length (conditions o) ≤ condition_limit

-- the conditions are within the limit
abbrev pub IsWithin : Program → Result ⊤ ConditionsError → Type 0
IsWithin o (Ok unit) = length (conditions o) ≤ condition_limit
IsWithin o (Err error) = IsWhyNot o error

-- how many conditions there are
abbrev pub IsCounted : Program → Result ℕ ConditionsError → Type 0
IsCounted o (Ok count) = (count ≡ length (conditions o)) × (length (conditions o) ≤ condition_limit)
IsCounted o (Err error) = IsWhyNot o error

-- the listing has this text, and the conditions are within the limit
abbrev pub IsListing : Form → Option (List ℕ) → Program → List ℕ → List ℕ → Type 0
IsListing form only o source text = (text ≡ listing_text form only o source) × (length (conditions o) ≤ condition_limit)

-- the lines that say why a word names no conditions: it has no numbers, or one that none of this many conditions has
abbrev pub no_numbers_line : List ℕ
no_numbers_line = codes "  conditions are numbers with commas between them, as 3,7\n"

abbrev pub no_condition_line : ℕ → ℕ → List ℕ
no_condition_line n count = codes "  there is no condition " & decimal n & codes ": they are numbered from 1 to " & decimal count & codes "\n"

-- the line of the first number that none of this many conditions has
abbrev pub IsNoCondition : List ℕ → ℕ → List ℕ → Type 0
IsNoCondition numbers count line = (n : ℕ) × (find (λ m. not (is_number count m)) numbers ≡ Some n) × (line ≡ no_condition_line n count)

abbrev pub IsNoNumbers : Bor (List ℕ) → Reply → Type 0
IsNoNumbers word (replies.Listing text) = ⊥
IsNoNumbers word (replies.Bad bad line) = (bad ≡ word) × (line.items ≡ no_numbers_line)

-- where all are asked for: the listing of all
abbrev pub IsReplyToAll : Form → Program → List ℕ → Reply → Type 0
IsReplyToAll form o source (replies.Listing text) = IsListing form None o source text
IsReplyToAll form o source (replies.Bad word line) = ⊥

-- of the numbers in a word: the listing of these, each of which is a condition's; or the line of the first number that no condition has
abbrev pub IsReplyOf : Form → Bor (List ℕ) → List ℕ → Program → List ℕ → Reply → Type 0
IsReplyOf form word numbers o source (replies.Listing text) =
    (list_all (is_number (length (conditions o))) numbers ≡ true) × IsListing form (Some numbers) o source text
IsReplyOf form word numbers o source (replies.Bad bad line) =
    (bad ≡ word) × IsNoCondition numbers (length (conditions o)) line.items × (length (conditions o) ≤ condition_limit)

-- of a word: by its numbers, or that it has none
abbrev pub IsReplyTo : Form → Bor (List ℕ) → Program → List ℕ → Reply → Type 0
IsReplyTo form word o source reply =
    ((numbers : List ℕ) × AreNumbers word.now numbers × IsReplyOf form word numbers o source reply)
    ⊎ (IsNoNumbers word reply × ((numbers : List ℕ) → AreNumbers word.now numbers → ⊥))

-- of a word where there is one
abbrev pub IsReply : Form → Option (Bor (List ℕ)) → Program → List ℕ → Reply → Type 0
IsReply form None o source reply = IsReplyToAll form o source reply
IsReply form (Some word) o source reply = IsReplyTo form word o source reply
