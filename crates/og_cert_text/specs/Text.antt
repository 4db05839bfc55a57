-- The text of a file of certificates.
use Rattle.std.specs.Prelude.{ℕ, List, [], ◌∷◌, ◌++◌, codes}

-- version 2 has the line `same`
pub data Version : Type 0 where
  One : Version
  Two : Version

abbrev pub version_text : Version → List ℕ
version_text One = codes "og-cert 1" ++ 10 ∷ []
version_text Two = codes "og-cert 2" ++ 10 ∷ []
