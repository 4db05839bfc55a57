-- How a file is kept: numbers with places in a list of certificates.
use Rattle.std.specs.Prelude.{ℕ, List, [], map, length, get_or, Bool, ◌&&◌, nat_lt}
use Rattle.std.specs.List.{list_all}
use Rattle.og_cert_text.specs.declared.cert.Cert.{Cert}
use Rattle.og_cert_text.specs.Tree as tree
use Rattle.og_cert_text.specs.Plain.{plain_cert}
use Rattle.og_cert_text.specs.Lines.{is_number}
use Rattle.og_cert_text.specs.Shallow.{is_well_formed}
use Rattle.og_cert_text.specs.Files.{Entries}

abbrev pub placed : List Cert → ℕ → tree.Cert
placed cs i = get_or (map plain_cert cs) i (tree.Close [])

abbrev pub stored : List (ℕ × ℕ) → List Cert → Entries
stored ns cs = map (λ e. (e.0, placed cs e.1)) ns

-- each place is there, and all is within the limits
abbrev pub is_stored : List (ℕ × ℕ) → List Cert → Bool
is_stored ns cs = list_all (λ e. is_number e.0 && nat_lt e.1 (length cs)) ns && list_all (λ c. is_well_formed (plain_cert c)) cs
