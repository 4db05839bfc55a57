-- The findings on conditions.
use Rattle.std.specs.Prelude.{◌≡◌, ℕ, ◌-◌, ◌<◌, ℤ, List, length, true, false, ⊤, IsSomeAnd, IsOkAnd, slice_get}
use Rattle.std.specs.List.{AllByRecursion}
use Rattle.og_linear.specs.Linear.{IsProper}
use Rattle.og_cond.specs.Condition.{assignments, Condition}
use Rattle.og_cond.specs.Valid.{hypotheses_true, goal_true}
use Rattle.og_facts.specs.Facts.{facts_of}
use Rattle.og_facts.specs.Truth.{all_true_at}
use Rattle.og_facts.specs.Listed.{Listed}
use Rattle.og_cert_text.specs.Tree.{Cert}
use Rattle.og_cert_text.specs.Plain.{plain_cert}
use Rattle.og_cert_text.specs.Shallow.{is_well_formed}
use Rattle.og_cert_text.specs.Files.{Entries}
use Rattle.og_cert.specs.Closes.{closes}
use Rattle.og_find.specs.declared.verdict.Verdict.{Verdict}
use Rattle.og_find.specs.declared.verdict.Verdict.TheVariants as verdicts
use Rattle.og_find.specs.declared.verdict.Followed.{Followed}
use Rattle.og_find.specs.declared.verdict.Followed.TheVariants as followed

-- the certificate is well formed, and it closes the facts of the condition
abbrev pub Certifies : Condition → Cert → Type 0
Certifies c proof = (is_well_formed proof ≡ true) × IsOkAnd (facts_of c) (λ fs. closes c.variables fs proof ≡ true)

-- a state of i64 values, one for each variable, in which the hypotheses are true and the goal is false
abbrev pub IsFalseAt : Condition → List ℤ → Type 0
IsFalseAt c s = IsProper s × (length s ≡ c.variables) × (hypotheses_true s c.hypotheses ≡ true) × (goal_true s (assignments c.action) c.goal ≡ false)

-- the verdict on the condition is right
abbrev pub IsVerdict : Condition → Verdict → Type 0
IsVerdict c (verdicts.True cert) = Certifies c (plain_cert cert)
IsVerdict c (verdicts.False s) = IsFalseAt c s
IsVerdict c verdicts.Open = ⊤

-- the verdict on the condition after the certificate of its leader is right
abbrev pub IsFollowed : Condition → Cert → Followed → Type 0
IsFollowed c proof followed.Shares = Certifies c proof
IsFollowed c proof (followed.Own v) = IsVerdict c v

-- the entry is of a condition of the list, counted from 1, and certifies it
abbrev pub IsOfOne : List Condition → ℕ × Cert → Type 0
IsOfOne cs e = (0 < e.0) × IsSomeAnd (slice_get cs (e.0 - 1)) (λ c. Certifies c e.1)

-- each entry is of a condition, and certifies it
abbrev pub AreOf : List Condition → Entries → Type 0
AreOf cs = AllByRecursion (IsOfOne cs)

-- ---- of a list of facts

abbrev pub Closes : Listed → Cert → Type 0
Closes list proof = (is_well_formed proof ≡ true) × (closes list.variables list.facts proof ≡ true)

-- a state of i64 values, one for each variable, in which all facts are true
abbrev pub IsModel : Listed → List ℤ → Type 0
IsModel list s = IsProper s × (length s ≡ list.variables) × (all_true_at s list.facts ≡ true)

abbrev pub IsVerdictOn : Listed → Verdict → Type 0
IsVerdictOn list (verdicts.True cert) = Closes list (plain_cert cert)
IsVerdictOn list (verdicts.False s) = IsModel list s
IsVerdictOn list verdicts.Open = ⊤

abbrev pub IsFollowedOn : Listed → Cert → Followed → Type 0
IsFollowedOn list proof followed.Shares = Closes list proof
IsFollowedOn list proof (followed.Own v) = IsVerdictOn list v
