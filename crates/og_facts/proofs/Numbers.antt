-- Facts by their numbers.
use Rattle.std.proofs.Common.{◌≡◌, ℕ, ◌+◌, List, ap, ◌∙◌, add-one}
use Rattle.std.specs.Prelude.{slice_get}
use Rattle.og_facts.specs.Facts.{Fact}
use Rattle.og_facts.specs.Listed.{numbered}

pub numbered_at : (n i : ℕ) (fs : List Fact) → n ≡ i + 1 → numbered n fs ≡ slice_get fs i
numbered_at n i fs e = ap (λ k. numbered k fs) (e ∙ add-one i)
