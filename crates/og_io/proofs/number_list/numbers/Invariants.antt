use denote.Shadow.{shadow}
use denote.Text.{Utf8}
use Rattle.std.proofs.Common.{◌≡◌, ◌++◌, ℕ, List, length}
use Rattle.og_io.specs.Numbers.{AreNumbers}
use Rattle.og_io.proofs.number_list.numbers.Given as goal

-- what the rest adds to the numbers so far is what the word says, and nothing else
abbrev pub invariant-loop-first : goal.invariant-loop-first
invariant-loop-first l =
    shadow (Utf8 l.rest)
    × ((tail : List ℕ) → AreNumbers l.rest tail → AreNumbers l.word (l.found.items ++ tail))
    × ((all : List ℕ) → AreNumbers l.word all → (tail : List ℕ) × (all ≡ l.found.items ++ tail) × AreNumbers l.rest tail)

abbrev pub decreases-loop-first : goal.decreases-loop-first
decreases-loop-first l = length l.rest
