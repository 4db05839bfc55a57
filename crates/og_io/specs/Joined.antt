-- A joined input: a source, and after it certificates, if there are some.
use Rattle.std.specs.Prelude.{◌≡◌, ◌<◌, ◌-◌, ◌⊎◌, ℕ, Bool, true, false, ◌==◌, ◌&&◌, ◌||◌, List, [], ◌++◌, length, get_or, drop, codes}
use Rattle.std.specs.List.{starts_with}

-- the text's first line is exactly this one; a last line needs no LF
abbrev pub begins_with_line : List ℕ → List ℕ → Bool
begins_with_line text line =
    starts_with (λ a b. a == b) text line && (length text == length line || get_or text (length line) 0 == 10)

-- the text's first line is one with which certificates begin
abbrev pub begins_certs : List ℕ → Bool
begins_certs text = begins_with_line text (codes "og-cert 1") || begins_with_line text (codes "og-cert 2")

-- a line begins at the place: the first one, or one after an LF
abbrev pub begins_line : List ℕ → ℕ → Bool
begins_line input place = place == 0 || get_or input (place - 1) 0 == 10

-- the certificates may begin there
unfoldable pub certs_at : List ℕ → ℕ → Bool
certs_at input place = begins_line input place && begins_certs (drop place input)

-- the source is all before the first line that is the certificates' first; they are that line and the rest, or nothing
pub record IsSplit (input source certs : List ℕ) : Type 0 where
  pub whole : input ≡ source ++ certs
  pub first : (place : ℕ) → place < length source → certs_at input place ≡ false
  pub rest : (certs ≡ []) ⊎ (certs_at input (length source) ≡ true)
