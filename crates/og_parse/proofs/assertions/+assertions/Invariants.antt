use Rattle.std.proofs.Common.{◌≡◌, map, ◌+◌, ◌*◌, length}
use Rattle.og_text.specs.declared.token.TokenKind.TheVariants.{And, Or}
use Rattle.og_parse.specs.Reading.{is_a, many_at, after_at}
use Rattle.og_parse.proofs.Loops.{with_front}
use Rattle.og_parse.specs.TreeOf.{assertion_of}
use Rattle.og_parse.specs.Reads.{opens, unit_by, units_by, conjunction_by, conjunctions_by}
use Rattle.og_parse.proofs.assertions.+assertions.Given as goal

abbrev pub decreases-prefix : goal.decreases-prefix
decreases-prefix l = 8 * l.depth

abbrev pub decreases-implied : goal.decreases-implied
decreases-implied l = 8 * l.depth

abbrev pub decreases-negation : goal.decreases-negation
decreases-negation l = 8 * l.depth + 7

abbrev pub decreases-in_parens : goal.decreases-in_parens
decreases-in_parens l = 8 * l.depth + 7

abbrev pub decreases-consequence : goal.decreases-consequence
decreases-consequence l = 8 * l.depth + 7

abbrev pub decreases-unit : goal.decreases-unit
decreases-unit l = 8 * l.depth + 1

abbrev pub decreases-units : goal.decreases-units
decreases-units l = 8 * l.depth + 2

abbrev pub decreases-conjunction : goal.decreases-conjunction
decreases-conjunction l = 8 * l.depth + 3

abbrev pub decreases-conjunctions : goal.decreases-conjunctions
decreases-conjunctions l = 8 * l.depth + 4

abbrev pub decreases-disjunction : goal.decreases-disjunction
decreases-disjunction l = 8 * l.depth + 5

abbrev pub decreases-assertion : goal.decreases-assertion
decreases-assertion l = 8 * l.depth + 6

abbrev pub invariant-units-more : goal.invariant-units-more
invariant-units-more l = with_front (map assertion_of l.all.items) (many_at (is_a And) (after_at And (unit_by (opens l.depth))) l.cursor) ≡ units_by (opens l.depth) l.fn.cursor

abbrev pub decreases-units-more : goal.decreases-units-more
decreases-units-more l = length l.cursor

abbrev pub invariant-conjunctions-more : goal.invariant-conjunctions-more
invariant-conjunctions-more l = with_front (map assertion_of l.all.items) (many_at (is_a Or) (after_at Or (conjunction_by (opens l.depth))) l.cursor) ≡ conjunctions_by (opens l.depth) l.fn.cursor

abbrev pub decreases-conjunctions-more : goal.decreases-conjunctions-more
decreases-conjunctions-more l = length l.cursor
