use Rattle.std.proofs.Common.{◌<◌, length, map, arith}
use Rattle.std.proofs.lemmas.List.{length-map}
use Rattle.og_facts.specs.Answer.{shown}
use Rattle.og_facts.specs.Walk.{walk_values}
use Rattle.og_facts.proofs.Items.{split_pushed, values_many}
use Rattle.og_facts.proofs.goals.add_values.Goals as goal

pub returns : goal.returns
returns c =
    let v = c.in_ok-parts.parts in
    let many = values_many c.args.values.now (map shown v.items) (omega arith) c.in_ok-parts.ensures in
    let long : 1 < length v.items = omega (arith, many, length-map v.items shown) in
    split_pushed c.args.facts.now.items c.push.new.self.items v (walk_values c.args.values.now) c.in_ok-push.ensures.items long c.in_ok-parts.ensures
