-- What bounds of variables say of a state.
use Rattle.std.specs.Prelude.{◌≡◌, ◌≢◌, ℕ, ◌≤◌, ◌<◌, ℤ, pos, negsuc, ◌≤ℤ◌, ◌<ℤ◌, ◌^◌, ◌-◌, List, [], ◌∷◌, length, drop, get_or, slice_set, Option, None}
use Rattle.og_linear.specs.Linear.{value_at}
use Rattle.og_search_rows.specs.declared.bounds.Side.{Side}
use Rattle.og_search_rows.specs.declared.bounds.Side.TheVariants.{Lower, Upper}
use Rattle.og_search_rows.specs.declared.bounds.Bound.{Bound}
use Rattle.og_search_rows.specs.declared.bounds.Interval.{Interval}
use Rattle.og_search_rows.specs.declared.bounds.Before.{Before}
use Rattle.og_search_rows.specs.declared.inequality.Term.{Term}
use Rattle.og_search_rows.specs.declared.inequality.Inequality.{Inequality}
use Rattle.og_search_rows.specs.declared.variables.Variables.{Variables}

-- the interval of each variable in turn, which variables got a better bound, and the intervals that were replaced, in order
pub record BoundsValue : Type 0 where
  pub intervals : List Interval
  pub changed : Variables
  pub trail : List Before

-- the intervals with these put back, the last one first
abbrev pub undone : List Before → List Interval → List Interval
undone [] b = b
undone (e ∷ es) b = slice_set (undone es b) e.var e.interval

-- the intervals at the time when n had been replaced
abbrev pub rewound : ℕ → BoundsValue → List Interval
rewound n b = undone (drop n b.trail) b.intervals

-- wherever the old bounds can go back to, the new ones go back to the same intervals
pub record LeadsBack (new old : BoundsValue) : Type 0 where
  pub longer : length old.trail ≤ length new.trail
  pub same : (n : ℕ) → n ≤ length old.trail → rewound n new ≡ rewound n old

-- the range of i64, which no row says
abbrev pub whole : Interval
whole = record { lower = record { value = negsuc (2 ^ 63 - 1); row = None }; upper = record { value = pos (2 ^ 63 - 1); row = None } }

-- the bound of a variable on a side; that of i64 where there is no such variable
abbrev pub bound_at : List Interval → ℕ → Side → Bound
bound_at b x Lower = (get_or b x whole).lower
bound_at b x Upper = (get_or b x whole).upper

-- each variable is within its bounds
abbrev pub Within : List Interval → List ℤ → Type 0
Within b s = (x : ℕ) → ((bound_at b x Lower).value ≤ℤ value_at s x) × (value_at s x ≤ℤ (bound_at b x Upper).value)

-- an interval with this bound on this side
abbrev pub bounded : Side → Bound → Interval → Interval
bounded Lower b i = record i { lower = b }
bounded Upper b i = record i { upper = b }

-- one bound leaves fewer values than another
abbrev pub Tightens : Side → ℤ → ℤ → Type 0
Tightens Lower new old = old <ℤ new
Tightens Upper new old = new <ℤ old

-- the least i128
abbrev pub least : ℤ
least = negsuc (2 ^ 127 - 1)

-- the inequality is of one of n variables alone, and its numbers can be negated
pub record IsBoundOf (n : ℕ) (f : Inequality) : Type 0 where
  pub term : Term
  pub only : f.terms.items ≡ term ∷ []
  pub there : term.var < n
  pub nonzero : term.coefficient ≢ pos 0
  pub coefficient : least <ℤ term.coefficient
  pub constant : least <ℤ f.constant

-- on one side the variable has a better bound, which this row says; its other bound stays
pub record GetsBetter (old new : List Interval) (x : ℕ) (row : Option ℕ) : Type 0 where
  pub side : Side
  pub tightens : Tightens side (bound_at new x side).value (bound_at old x side).value
  pub said : (bound_at new x side).row ≡ row
  pub other : (there : Side) → there ≢ side → bound_at new x there ≡ bound_at old x there

-- a value is within a limit
abbrev pub Meets : Side → ℤ → ℤ → Type 0
Meets Lower least v = least ≤ℤ v
Meets Upper most v = v ≤ℤ most
