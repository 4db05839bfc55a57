use Rattle.std.proofs.Common.{◌≡◌, arith, length, vec_len, ap}
use Rattle.std.proofs.lemmas.List.{length-take}
use Rattle.og_io.proofs.Taking.{takes_more, taken_end, taken_full, consumes_none}
use Rattle.og_io.proofs.reading.read_up_to.Goals as goal

pub returns-then-room-eq0-clause-text : goal.returns-then-room-eq0-clause-text
returns-then-room-eq0-clause-text g c =
    let len : vec_len c.loop.text ≡ length c.loop.text.items = c.loop.text.ok.0 in
    let within = c.loop.invariant.within in
    taken_full _ _ c.loop.text.items c.args.most c.loop.invariant.taken (omega arith)

pub returns-then-not-branch-clause-consumed : goal.returns-then-not-branch-clause-consumed
returns-then-not-branch-clause-consumed g c =
    let len : vec_len c.loop.text ≡ length c.loop.text.items = c.loop.text.ok.0 in
    (takes_more _ _ _ c.loop.text.items c.read_once.new.text.items c.args.most _ c.loop.invariant.taken (omega (arith, length-take c.min-size.result c.deref_mut.result.now)) c.in_ok-read_once.ensures.takes).0

pub returns-then-not-branch-clause-text : goal.returns-then-not-branch-clause-text
returns-then-not-branch-clause-text g c =
    let len : vec_len c.loop.text ≡ length c.loop.text.items = c.loop.text.ok.0 in
    let more = takes_more _ _ _ c.loop.text.items c.read_once.new.text.items c.args.most _ c.loop.invariant.taken (omega (arith, length-take c.min-size.result c.deref_mut.result.now)) c.in_ok-read_once.ensures.takes in
    taken_end _ _ _ _ more.0 (c.in_ok-read_once.ensures.end c.if-not-branch.true) more.1

pub loop-init : goal.loop-init
loop-init g c = record {
  taken = consumes_none _ _ c.new-text.ensures.items;
  within = let none = ap length c.new-text.ensures.items in omega arith;
  room = omega (arith, c.in_ok-chunk.ensures);
  some = λ h. omega (arith, h);
}

pub loop-preserved : goal.loop-preserved
loop-preserved g c =
    let len : vec_len c.loop.text ≡ length c.loop.text.items = c.loop.text.ok.0 in
    let more = takes_more _ _ _ c.loop.text.items c.read_once.new.text.items c.args.most _ c.loop.invariant.taken (omega (arith, length-take c.min-size.result c.deref_mut.result.now)) c.in_ok-read_once.ensures.takes in
    record { taken = more.0; within = more.1; room = c.loop.invariant.room; some = λ _. omega arith }

pub returns-clause-failed : goal.returns-clause-failed
returns-clause-failed g c = λ _. c.loop.invariant.some (omega arith)
