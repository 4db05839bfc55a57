use Rattle.std.proofs.Common.{◌≡◌, ◌≤◌, length, rules, arith, refl}
use Rattle.og_completion.proofs.Trees.{front_turn, front_whole}
use Rattle.og_completion.proofs.checking.begins_with_names.Goals as goal

pub loop-i-preserved : goal.loop-i-preserved
loop-i-preserved c =
    let long : length c.args.old.now ≤ length c.args.new.now = search rules in
    front_turn c.args.new.now c.args.old.now c.loop-i.i c.index-new-i.result c.index-old-i.result c.loop-i-test.true long c.index-new-i.is c.index-old-i.is (c.if-not-same_name.ensures refl) c.loop-i.invariant

pub returns : goal.returns
returns c = λ _. front_whole c.args.new.now c.args.old.now c.loop-i.i (omega arith) c.loop-i.invariant
