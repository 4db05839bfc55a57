use Rattle.og_search_rows.proofs.number.common_divisor.Given as goal

abbrev pub decreases-loop-low : goal.decreases-loop-low
decreases-loop-low l = l.low
