-- The order of a file's numbers, and the entries after one of them.
use Rattle.std.specs.Prelude.{◌≡◌, ℕ, ◌+◌, ◌<◌, [], ◌∷◌, Bool, true, ◌&&◌, nat_lt, nat_le, Option, Some, None, IsSome, filter}
use Rattle.std.specs.List.{list_all}
use Rattle.og_cert_text.specs.Tree as tree
use Rattle.og_cert_text.specs.Lines.{is_number}
use Rattle.og_cert_text.specs.Shallow.{is_well_formed}
use Rattle.og_cert_text.specs.Files.{Entries, certificate_of}

-- the numbers rise from low on
abbrev pub rise_from : ℕ → Entries → Bool
rise_from low [] = true
rise_from low (e ∷ es) = nat_le low e.0 && rise_from (e.0 + 1) es

-- the numbers rise, and each number and each certificate is within the limits
abbrev pub is_file : Entries → Bool
is_file es = rise_from 0 es && list_all (λ e. is_number e.0 && is_well_formed e.1) es

-- the least number above n that has a certificate
abbrev pub IsLeastAbove : ℕ → Entries → Option ℕ → Type 0
IsLeastAbove n es None = (m : ℕ) → n < m → certificate_of m es ≡ None
IsLeastAbove n es (Some l) = (n < l) × IsSome (certificate_of l es) × ((m : ℕ) → n < m → m < l → certificate_of m es ≡ None)

-- the entries above n
abbrev pub above : ℕ → Entries → Entries
above n es = filter (λ e. nat_lt n e.0) es

-- the first of the entries above n
abbrev pub IsNextEntry : ℕ → Entries → Option (ℕ × tree.Cert) → Type 0
IsNextEntry n es None = above n es ≡ []
IsNextEntry n es (Some e) = above n es ≡ e ∷ above e.0 es
