use Rattle.std.proofs.Common.{◌≡◌, to_z, of_z}
use mir.Syntax.{w128}
use Rattle.std.proofs.lemmas.Int.{to_z-of_z}
use Rattle.og_search_rows.specs.Inequality.{sum_at}
use Rattle.og_search_rows.proofs.Sums.{put_turn, put_end}
use Rattle.og_search_rows.proofs.Merges.{no_term}
use Rattle.og_search_rows.proofs.inequality.put_all.Goals as goal

pub loop-term-preserved : goal.loop-term-preserved
loop-term-preserved c = λ s.
    put_turn c.args.more.now s c.loop-term.term-index no_term (to_z w128 (of_z w128 c.args.times)) (sum_at c.loop-term.terms.items s) (sum_at c.put_multiple.new.terms.items s) _
    c.loop-term-test.true (c.in_ok-put_multiple.ensures c.if-not-branch.false s) (c.loop-term.invariant s)

pub returns : goal.returns
returns c = λ _ s.
    let m = to_z w128 (of_z w128 c.args.times) in
    let same : m ≡ c.args.times = to_z-of_z w128 c.args.times c.ranges.times in
    rw (← same) (put_end c.args.more.now s c.loop-term.term-index m (sum_at c.loop-term.terms.items s) _ c.loop-term-test.false (c.loop-term.invariant s))
