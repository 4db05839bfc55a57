-- A map from texts to numbers: the words of the contracts of private functions.
use Rattle.std.specs.Prelude.{ℕ, List, if◌then◌else◌, Option, Some, None, Vec}
use Rattle.std.specs.Global.{Global}
use Rattle.std.specs.Str.{bytes_eq}
use Rattle.std.specs.Ordering.{nat_cmp}
use Rattle.std.specs.Cmp.Lexicographic.{slice_cmp}
use Rattle.std.specs.BTreeMap.{BTreeMap, get_by}

-- the number of a text
abbrev pub found : List ℕ → BTreeMap (Vec ℕ Global) ℕ → Option ℕ
found text m = get_by (λ k. slice_cmp nat_cmp text k.items) m

-- the number that was found, or n at that text
abbrev pub or_this : Option ℕ → List ℕ → List ℕ → ℕ → Option ℕ
or_this (Some k) text other n = Some k
or_this None text other n = if bytes_eq text other then Some n else None
