-- The findings on the conditions of an outline by a text of certificates.
use Rattle.std.specs.Prelude.{◌≡◌, ℕ, suc, ◌<◌, ◌≤◌, List, [], ◌∷◌, length, Bool, true, false, Option, Some, None, IsSome, Ok, take, slice_get, ◌-◌}
use Rattle.std.specs.List.{list_all}
use Rattle.og_typed.specs.Syntax.{Program}
use Rattle.og_cond.specs.Condition.{Condition}
use Rattle.og_cond.specs.Conditions.{conditions}
use Rattle.og_cond.specs.Limits.{condition_limit}
use Rattle.og_cert_text.specs.Files.{Entries, certificate_of}
use Rattle.og_cert_read.specs.Read.{Gives, IsWrong}
use Rattle.og_pool.specs.Status.{by_cert}
use Rattle.og_pool.specs.declared.status.Status.{Status}
use Rattle.og_pool.specs.declared.status.Status.TheVariants as status
use Rattle.og_report_text.specs.declared.fault.InputFault.{InputFault}
use Rattle.og_report_text.specs.declared.fault.InputFault.TheVariants as faults
use Rattle.og_judge.specs.declared.entry.Entry.{Entry}

-- ---- conditions with their statuses

abbrev pub entry_of : Condition → Status → Entry
entry_of c s = record { kind = c.kind; at = c.at; action_at = c.action_at; status = s }

-- an entry for each condition, numbered on, by its certificate in the file
abbrev pub entries_from : ℕ → Entries → List Condition → List Entry
entries_from n file [] = []
entries_from n file (c ∷ cs) = entry_of c (by_cert c (certificate_of n file)) ∷ entries_from (suc n) file cs

-- no number above this one has a certificate
abbrev pub HasNoneAbove : ℕ → Entries → Type 0
HasNoneAbove n file = (m : ℕ) → n < m → certificate_of m file ≡ None

-- the statuses of the outline's conditions by the certificates of the text
pub record AreEntries (certs : List ℕ) (o : Program) (entries : List Entry) : Type 0 where
  pub few : length (conditions o) ≤ condition_limit
  pub file : Entries
  pub read : Gives certs (Ok file)
  pub none_stray : HasNoneAbove (length (conditions o)) file
  pub listed : entries ≡ entries_from 1 file (conditions o)

-- ---- refusals: each one where those before it do not apply

-- the least number that has a certificate and no condition
pub record IsStray (certs : List ℕ) (o : Program) (n : ℕ) : Type 0 where
  pub few : length (conditions o) ≤ condition_limit
  pub file : Entries
  pub read : Gives certs (Ok file)
  pub above : length (conditions o) < n
  pub there : IsSome (certificate_of n file)
  pub least : (m : ℕ) → length (conditions o) < m → m < n → certificate_of m file ≡ None

-- the fault of an outline and the text of its certificates
abbrev pub AreRefused : List ℕ → Program → InputFault → Type 0
AreRefused certs o (faults.Source fault) = ⊥
AreRefused certs o (faults.Conditions fault) = condition_limit < length (conditions o)
AreRefused certs o (faults.Certs fault) = (length (conditions o) ≤ condition_limit) × IsWrong certs fault
AreRefused certs o (faults.Stray n) = IsStray certs o n

-- ---- what follows from the statuses

abbrev pub is_proved : Entry → Bool
is_proved e = status_proved e.status
  where
    status_proved : Status → Bool
    status_proved status.Proved = true
    status_proved status.Missing = false
    status_proved status.TooLarge = false
    status_proved (status.Failed fault) = false

-- every entry but the last is proved
abbrev pub is_safe : List Entry → Bool
is_safe es = list_all is_proved (take (length es - 1) es)

abbrev pub is_there_and_proved : Option Entry → Bool
is_there_and_proved None = false
is_there_and_proved (Some e) = is_proved e

-- the last one is
abbrev pub is_unblocked : List Entry → Bool
is_unblocked es = is_there_and_proved (slice_get es (length es - 1))
