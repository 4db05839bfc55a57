use Rattle.og_command_notes.proofs.Blocks.{one_block}
use Rattle.og_command_notes.proofs.Pairs.{pair_at}
use Rattle.og_command_notes.proofs.together.block_of.Goals as goal

pub returns-in-Some-clause-block : goal.returns-in-Some-clause-block
returns-in-Some-clause-block c =
    let h = rw c.in-Some.is at c.in_ok-one.ensures.apart in
    one_block c.args.points.now c.args.row c.args.column c.in-Some.one c.in-Some.other c.index-points-row.result c.index-points-column.result
    c.requires.row c.requires.column c.index-points-row.is c.index-points-column.is h

pub returns-in-Some-clause-counted : goal.returns-in-Some-clause-counted
returns-in-Some-clause-counted c =
    pair_at c.args.points.now c.args.row c.args.column c.index-points-row.result c.index-points-column.result c.args.pairs.now.left c.compare.new.self.left
    c.requires.row c.requires.column c.index-points-row.is c.index-points-column.is c.in_ok-one.ensures.counted
