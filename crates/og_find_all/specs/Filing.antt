-- Certificates of what was found.
use Rattle.std.specs.Prelude.{◌≡◌, ◌⊎◌, ℕ, ◌-◌, ◌<◌, List, Option, Some, None, slice_get}
use Rattle.std.specs.Global.{Box}
use Rattle.std.specs.List.{AllByRecursion}
use Rattle.og_cert_text.specs.Tree.{Cert}
use Rattle.og_cert_text.specs.Plain.{plain_cert}
use Rattle.og_cert_text.specs.Files.{Entries, certificate_of, with_entry}
use Rattle.og_find.specs.declared.verdict.Verdict.{Verdict}
use Rattle.og_find.specs.declared.verdict.Verdict.TheVariants as verdicts
use Rattle.og_find_all.specs.Findings.{verdict_in}

-- the certificate of a verdict
abbrev pub IsCertificateOf : Option Verdict → Cert → Type 0
IsCertificateOf None proof = ⊥
IsCertificateOf (Some (verdicts.True cert)) proof = plain_cert cert ≡ proof
IsCertificateOf (Some (verdicts.False s)) proof = ⊥
IsCertificateOf (Some verdicts.Open) proof = ⊥

-- each entry is the certificate of the verdict on the condition of its number
abbrev pub AreFiled : List (Option (Box Verdict)) → List ℕ → List Verdict → Entries → Type 0
AreFiled own places verdicts = AllByRecursion (λ e. (0 < e.0) × IsCertificateOf (verdict_in own places verdicts (e.0 - 1)) e.1)

-- the condition at the index has the verdict at the place
abbrev pub IsAtPlace : List (Option (Box Verdict)) → List ℕ → ℕ → ℕ → Type 0
IsAtPlace own places i place = (slice_get own i ≡ Some None) × (slice_get places i ≡ Some place)

-- the file is as before, or it has this entry more
abbrev pub IsPut : ℕ → Cert → Entries → Entries → Type 0
IsPut n c before after = (after ≡ before) ⊎ (after ≡ with_entry n c before)

-- the file is as before, or condition n has the certificate of condition k too
abbrev pub IsShared : ℕ → ℕ → Entries → Entries → Type 0
IsShared n k before after = (after ≡ before) ⊎ ((c : Cert) × (certificate_of k before ≡ Some c) × (after ≡ with_entry n c before))
