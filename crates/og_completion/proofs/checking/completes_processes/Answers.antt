use Rattle.std.proofs.Common.{◌≡◌, length, rules, arith, refl}
use Rattle.og_completion.proofs.Trees.{ProcessCompletes, each_turn, each_whole, processes_complete}
use Rattle.og_completion.proofs.checking.completes_processes.Goals as goal

pub loop-i-preserved : goal.loop-i-preserved
loop-i-preserved c =
    let long : length c.args.new.now ≡ length c.args.old.now = search rules in
    each_turn (ProcessCompletes c.args.count) c.args.new.now c.args.old.now c.loop-i.i c.index-new-i.result c.index-old-i.result c.loop-i-test.true long c.index-new-i.is c.index-old-i.is (c.if-not-completes_sequence.ensures refl) c.loop-i.invariant

pub returns : goal.returns
returns c = λ _.
    let long : length c.args.new.now ≡ length c.args.old.now = search rules in
    processes_complete c.args.count c.args.new.now c.args.old.now (each_whole (ProcessCompletes c.args.count) c.args.new.now c.args.old.now c.loop-i.i (omega arith) long c.loop-i.invariant)
