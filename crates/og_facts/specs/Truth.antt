-- When facts are true.
use Rattle.std.specs.Prelude.{ℤ, pos, List, [], ◌∷◌, Bool, true, false, ◌&&◌, ◌||◌, int_le}
use Rattle.og_linear.specs.Linear.{val}
use Rattle.og_facts.specs.Facts.{Fact, Atom, Split, Parts, no_part, part, Facts, no_fact, fact}

abbrev mutual
  pub fact_true : List ℤ → Fact → Bool
  fact_true s (Atom f) = int_le (val f s) (pos 0)
  fact_true s (Split ps) = some_part_true s ps

  pub some_part_true : List ℤ → Parts → Bool
  some_part_true s no_part = false
  some_part_true s (part p ps) = facts_true s p || some_part_true s ps

  pub facts_true : List ℤ → Facts → Bool
  facts_true s no_fact = true
  facts_true s (fact f fs) = fact_true s f && facts_true s fs

abbrev pub all_true_at : List ℤ → List Fact → Bool
all_true_at s [] = true
all_true_at s (f ∷ fs) = fact_true s f && all_true_at s fs
