use Rattle.std.proofs.Common.{◌<◌, length, arith}
use Rattle.std.specs.Prelude.{option_map}
use Rattle.og_facts.proofs.Items.{split_pushed, each_end}
use Rattle.og_facts.proofs.walking.+walking.Goals as goal

pub add_some-returns : goal.add_some-returns
add_some-returns t c =
    let long : 1 < length c.loop-a.parts.items = omega arith in
    split_pushed c.args.facts.now.items c.push-2.new.self.items c.loop-a.parts _ c.in_ok-push-2.ensures.items long
    (each_end (option_map (λ m. m.now) c.args.forms) c.args.is_true c.loop-a.parts.items c.args.all.now c.loop-a.a-index (omega arith) c.loop-a.invariant.same)
