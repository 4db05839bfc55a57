-- Where a file keeps the certificates of conditions.
use Rattle.std.specs.Prelude.{ℕ, Option}
use Rattle.std.specs.BTreeMap.{is_at}
use Rattle.std.specs.Map.{lookup}
use Rattle.std.specs.Ordering.{nat_cmp}
use Rattle.og_cert_text.specs.declared.file.CertFile.{CertFile}

-- the place of the certificate of condition n, if it has one
abbrev pub kept_at : ℕ → CertFile → Option ℕ
kept_at n file = lookup (is_at (nat_cmp n)) file.numbers.entries
