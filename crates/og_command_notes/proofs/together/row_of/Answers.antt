use Rattle.std.proofs.Common.{◌+◌, ◌-◌, ◌<◌, ◌≤◌, drop, length, arith}
use Rattle.std.specs.Prelude.{slice_get}
use Rattle.std.proofs.lemmas.List.{length-map}
use Rattle.og_review_text.specs.Seen.{point_of, points_of}
use Rattle.og_command_notes.specs.Together.{AreBlocks, pairs_in}
use Rattle.og_command_notes.proofs.Pairs.{row_left, row_done, none_left}
use Rattle.og_command_notes.proofs.together.row_of.Goals as goal
use Rattle.og_command_notes.proofs.together.row_of.Goals.{else-loop-column-test, then-loop-column-test+in_ok-block+then-pairs-eq0, in-Some+in_ok-add_column, in_default}

pub loop-column-preserved : goal.loop-column-preserved
loop-column-preserved c =
    let ps = points_of c.args.points.now in
    let o = slice_get ps c.args.index in
    let whole = c.args.pairs.now.left - pairs_in o (drop (c.args.index + 1) ps) in
    let blocks : AreBlocks ps c.match-branch-2.row.items = elim c.match-branch-2.branch [
      | in-Some+in_ok-add_column w ↦ rw w.row-is w.in_ok-add_column.ensures
      | in_default w ↦ rw w.row-is c.loop-column.invariant.0
    ] in
    let size = length-map c.args.points.now point_of in
    let within = c.loop-column-test.true in
    let lt : c.loop-column.column < length ps = omega (arith, size, within) in (
      blocks,
      row_left o ps c.loop-column.column c.loop-column.pairs.left c.block_of.new.pairs.left whole lt c.in_ok-block.ensures.counted c.loop-column.invariant.1,
    )

pub returns-clause-counted : goal.returns-clause-counted
returns-clause-counted c =
    let ps = points_of c.args.points.now in
    let o = slice_get ps c.args.index in
    let whole = c.args.pairs.now.left - pairs_in o (drop (c.args.index + 1) ps) in
    let size = length-map c.args.points.now point_of in
    elim c.loop-column-test.branch [
      | else-loop-column-test w ↦
          let past = w.loop-column-test.false in
          let le : length ps ≤ c.loop-column.column = omega (arith, size, past) in
          rw w.pairs-is (row_done o ps c.loop-column.column c.loop-column.pairs.left whole le c.loop-column.invariant.1)
      | then-loop-column-test+in_ok-block+then-pairs-eq0 w ↦
          let within = w.loop-column-test.true in
          let lt : c.loop-column.column < length ps = omega (arith, size, within) in
          let left = row_left o ps c.loop-column.column c.loop-column.pairs.left w.block_of.new.pairs.left whole lt w.in_ok-block.ensures.counted c.loop-column.invariant.1 in
          rw w.pairs-is (none_left w.block_of.new.pairs.left (pairs_in o (drop (c.loop-column.column + 1) ps)) whole w.if-pairs-eq0.true left)
    ]
