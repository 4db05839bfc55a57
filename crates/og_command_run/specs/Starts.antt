-- Which words and texts give a run a start.
use Rattle.std.specs.Prelude.{◌≡◌, ℕ, ℤ, Bool, true, List, None}
use Rattle.og_typed.specs.Syntax.{Program}
use Rattle.og_step.specs.Starts.{start_fault}
use Rattle.og_judge.specs.declared.entry.Entry.{Entry}
use Rattle.og_judge.specs.Entries.{AreEntries, is_safe}
use Rattle.og_command_run.specs.Words.{Give}
use Rattle.og_command_run.specs.Running.{program_of}

-- each word gives a value, and P of the values
abbrev pub Has : (List ℤ → Type 0) → Program → List (List ℕ) → Type 0
Has P o words = (values : List ℤ) × Give o words values × P values

-- the values are a start of the outline, with its auxiliaries or without them
abbrev pub HasStart : Bool → Program → List (List ℕ) → Type 0
HasStart without_auxiliaries o words =
    Has (λ values. start_fault (program_of without_auxiliaries o) values ≡ None) o words

-- the certificates prove the outline safe
abbrev pub IsSafeBy : List ℕ → Program → Type 0
IsSafeBy certs o = (entries : List Entry) × AreEntries certs o entries × (is_safe entries ≡ true)

-- the values are a start of the outline, which the certificates prove safe
abbrev pub HasProvedStart : Program → List ℕ → List (List ℕ) → Type 0
HasProvedStart o certs words =
    Has (λ values. IsSafeBy certs o × (start_fault o values ≡ None)) o words
