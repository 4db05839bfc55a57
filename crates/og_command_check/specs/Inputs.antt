-- How much of an input is read: up to one byte past its limit.
use Rattle.std.specs.Prelude.{◌≡◌, ℕ, List, take, Option, IfSome}

unfoldable pub source_of : List ℕ → List ℕ
source_of input = take 1048577 input

unfoldable pub certs_of : List ℕ → List ℕ
certs_of input = take 67108865 input

-- of one input in place of both
unfoldable pub joined_of : List ℕ → List ℕ
joined_of input = take 68157441 input

-- P of the bytes that were read of an input: the front of all its bytes, where these are known
abbrev pub Reads : (List ℕ → List ℕ) → Option (List ℕ) → (List ℕ → Type 0) → Type 0
Reads front input P = (bytes : List ℕ) × IfSome input (λ all. bytes ≡ front all) × P bytes
