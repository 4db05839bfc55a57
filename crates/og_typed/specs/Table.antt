-- Tables of points, and the rest at each.
use Rattle.std.specs.Prelude.{◌≡◌, ℕ, ◌+◌, ◌<◌, ◌≤◌, List, [], ◌∷◌, ◌++◌, true, false, length, Some, slice_get}
use Rattle.og_typed.specs.Syntax.{Rest}
use Rattle.og_typed.specs.Plain.{item_pair}
use Rattle.og_typed.specs.declared.points.Point.{Point}
use Rattle.og_typed.specs.Points.{rest_at, passed}

-- each point has its item, and then the rest at a point before it
abbrev pub rests_from : List Rest → List Point → List Rest
rests_from rests [] = rests
rests_from rests (p ∷ ps) = rests_from (rests ++ (item_pair p.item.now ∷ rest_at rests p.after) ∷ []) ps

-- nothing is left at point 0
abbrev pub rests_of : List Point → List Rest
rests_of = rests_from ([] ∷ [])

-- point k leads to points of the table, where the rest is as after its statement
pub record IsLinked (rests : List Rest) (k : ℕ) (p : Point) : Type 0 where
  pub after_known : p.after < length rests
  pub inside_known : p.inside < length rests
  pub otherwise_known : p.otherwise < length rests
  pub here : rest_at rests k ≡ item_pair p.item.now ∷ rest_at rests p.after
  pub inside : rest_at rests p.inside ≡ passed true (rest_at rests k)
  pub otherwise : rest_at rests p.otherwise ≡ passed false (rest_at rests k)

abbrev pub AreLinked : List Point → Type 0
AreLinked ps = (i : ℕ) (p : Point) → slice_get ps i ≡ Some p → IsLinked (rests_of ps) (i + 1) p

-- the table begins as it was, and its new points are linked
pub record IsGrown (old : List Point) (new : List Point) : Type 0 where
  pub more : List Point
  pub begins : new ≡ old ++ more
  pub linked : (i : ℕ) (p : Point) → length old ≤ i → slice_get new i ≡ Some p → IsLinked (rests_of new) (i + 1) p
