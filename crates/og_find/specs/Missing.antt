-- How many conditions have no certificate in a file.
use Rattle.std.specs.Prelude.{ℕ, zero, suc, Bool, is_none, if◌then◌else◌}
use Rattle.og_cert_text.specs.Files.{Entries, certificate_of}

abbrev pub lacks : Entries → ℕ → Bool
lacks file n = is_none (certificate_of n file)

-- how many of the conditions from 1 up to this number have no certificate
abbrev pub missing_up_to : Entries → ℕ → ℕ
missing_up_to file zero = 0
missing_up_to file (suc n) = if lacks file (suc n) then suc (missing_up_to file n) else missing_up_to file n
