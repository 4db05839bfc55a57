-- The last boundary between two places.
use Rattle.std.specs.Prelude.{◌≡◌, ℕ, ◌≤◌, ◌⊎◌, true, List}
use Rattle.og_lsp_text.specs.declared.encoding.Encoding.{Encoding}
use Rattle.og_lsp_text.specs.Positions.{units, is_boundary}

-- the place is the last boundary between two with at most so many units in front of it, from the first on; the first where there is none
pub record IsLastIn (encoding : Encoding) (text : List ℕ) (first last most at : ℕ) : Type 0 where
  pub after : first ≤ at
  pub before : at ≤ last
  pub boundary : (is_boundary text at ≡ true) ⊎ (first ≡ at)
  pub fits : units encoding text first at ≤ most
  pub greatest : (other : ℕ) → first ≤ other → other ≤ last → is_boundary text other ≡ true → units encoding text first other ≤ most → other ≤ at
