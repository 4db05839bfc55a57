use Rattle.std.proofs.Common.{◌≡◌, ◌++◌, drop, map}
use Rattle.og_text.specs.declared.token.TokenKind.TheVariants as kinds
use Rattle.og_parse.specs.Trees.{listed}
use Rattle.og_parse.specs.TreeOf.{assertion_of}
use Rattle.og_print.specs.Print.{written, later_in}
use Rattle.og_print.proofs.assertions.+assertions.Given as goal

abbrev pub invariant-put_conjunction-loop-a : goal.invariant-put_conjunction-loop-a
invariant-put_conjunction-loop-a l = l.text.items ++ later_in written kinds.And 0 (listed (map assertion_of (drop l.a-index l.later))) ≡ l.initial.text.items ++ later_in written kinds.And 0 (listed (map assertion_of l.later))

abbrev pub invariant-put_disjunction-loop-a : goal.invariant-put_disjunction-loop-a
invariant-put_disjunction-loop-a l = l.text.items ++ later_in written kinds.Or 1 (listed (map assertion_of (drop l.a-index l.later))) ≡ l.initial.text.items ++ later_in written kinds.Or 1 (listed (map assertion_of l.later))
