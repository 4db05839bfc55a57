-- Files of certificates: finite maps from the numbers of conditions to certificates.
use Rattle.std.specs.Prelude.{ℕ, List, [], ◌∷◌, ◌==◌, if◌then◌else◌, nat_lt, Option, Some, None}
use Rattle.og_cert_text.specs.Tree as tree

-- certificates with the numbers of their conditions; in a file the numbers rise
abbrev pub Entries : Type 0
Entries = List (ℕ × tree.Cert)

abbrev pub certificate_of : ℕ → Entries → Option tree.Cert
certificate_of n [] = None
certificate_of n (e ∷ es) = if n == e.0 then Some e.1 else certificate_of n es

-- the file with one entry more, at its place by number
abbrev pub with_entry : ℕ → tree.Cert → Entries → Entries
with_entry n c [] = (n, c) ∷ []
with_entry n c (e ∷ es) = if nat_lt n e.0 then (n, c) ∷ e ∷ es else e ∷ with_entry n c es
