use Rattle.std.proofs.Common.{◌≡◌, ◌+◌, ◌-◌, ◌<◌, ◌≤◌, drop, length, arith}
use Rattle.std.proofs.lemmas.List.{length-map}
use Rattle.og_review_text.specs.Seen.{point_of, points_of}
use Rattle.og_command_notes.specs.Together.{pair_count}
use Rattle.og_command_notes.proofs.Pairs.{all_left, all_done, none_left, is_cut}
use Rattle.og_command_notes.proofs.together.compared.Goals as goal
use Rattle.og_command_notes.proofs.together.compared.Goals.{else-loop-index-test, then-loop-index-test+in_ok-row+in_ok-add_row+then-pairs-eq0}

pub loop-index-preserved : goal.loop-index-preserved
loop-index-preserved c =
    let ps = points_of c.args.points.now in
    let size = length-map c.args.points.now point_of in
    let within = c.loop-index-test.true in
    let lt : c.loop-index.index < length ps = omega (arith, size, within) in (
      c.in_ok-add_row.ensures,
      all_left ps c.loop-index.index c.loop-index.pairs.left c.row_of.new.pairs.left (20001 - pair_count ps) lt c.in_ok-row.ensures.counted c.loop-index.invariant.1,
    )

pub returns-clause-counted : goal.returns-clause-counted
returns-clause-counted c =
    let ps = points_of c.args.points.now in
    let size = length-map c.args.points.now point_of in
    let left : c.loop-index-test.pairs.left ≡ 20001 - pair_count ps = elim c.loop-index-test.branch [
      | else-loop-index-test w ↦
          let past = w.loop-index-test.false in
          let le : length ps ≤ c.loop-index.index = omega (arith, size, past) in
          rw w.pairs-is (all_done ps c.loop-index.index c.loop-index.pairs.left (20001 - pair_count ps) le c.loop-index.invariant.1)
      | then-loop-index-test+in_ok-row+in_ok-add_row+then-pairs-eq0 w ↦
          let within = w.loop-index-test.true in
          let lt : c.loop-index.index < length ps = omega (arith, size, within) in
          let more = all_left ps c.loop-index.index c.loop-index.pairs.left w.row_of.new.pairs.left (20001 - pair_count ps) lt w.in_ok-row.ensures.counted c.loop-index.invariant.1 in
          rw w.pairs-is (none_left w.row_of.new.pairs.left (pair_count (drop (c.loop-index.index + 1) ps)) (20001 - pair_count ps) w.if-pairs-eq0.true more)
    ] in
    is_cut ps c.loop-index-test.pairs.left left
