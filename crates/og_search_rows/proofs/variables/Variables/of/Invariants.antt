use Rattle.std.proofs.Common.{◌≡◌, ℕ, take, ◌%◌}
use Rattle.std.specs.Prelude.{◌==◌}
use Rattle.std.specs.List.{list_any}
use Rattle.og_search_rows.specs.Variables.{has}
use Rattle.og_search_rows.proofs.variables.Variables.of.Given as goal

abbrev pub invariant-loop-term : goal.invariant-loop-term
invariant-loop-term l = (x : ℕ) → has l.all x ≡ list_any (λ t. x % 64 == t.var % 64) (take l.term-index l.terms)
