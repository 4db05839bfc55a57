-- The status of a condition by its number.
use Rattle.std.specs.Prelude.{ℕ, ◌-◌, List, map, slice_get, Option, Some, None}
use Rattle.og_cond.specs.Condition as plain
use Rattle.og_cond.specs.declared.condition.Condition.{Condition}
use Rattle.og_cond.specs.Seen.{seen}
use Rattle.og_cert_text.specs.Tree.{Cert}
use Rattle.og_cert_text.specs.Files.{certificate_of}
use Rattle.og_cert_text.specs.Shown.{shown}
use Rattle.og_cert_text.specs.declared.file.CertFile.{CertFile}
use Rattle.og_pool.specs.declared.status.Status.{Status}
use Rattle.og_pool.specs.declared.status.Status.TheVariants as status
use Rattle.og_pool.specs.Status.{by_cert}

abbrev pub by_condition : Option plain.Condition → Option Cert → Status
by_condition None proof = status.Missing
by_condition (Some c) proof = by_cert c proof

-- the status of condition n, counted from 1
unfoldable pub status_of : List Condition → CertFile → ℕ → Status
status_of cs file n = by_condition (slice_get (map seen cs) (n - 1)) (certificate_of n (shown file))
