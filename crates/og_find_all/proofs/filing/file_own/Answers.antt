use Rattle.std.proofs.Common.{◌≡◌, Some, length, subst, arith}
use Rattle.std.specs.Prelude.{slice_get}
use Rattle.og_find_all.proofs.Filed.{front, last_of}
use Rattle.og_find_all.proofs.filing.file_own.Goals as goal

pub loop-last-preserved : goal.loop-last-preserved
loop-last-preserved c =
    let i = c.loop-last.invariant in
    let items = c.in-Some.ensures.items in
    let rest = c.pop.new.self.items in
    let len = c.len.ensures in
    let same : length rest ≡ c.len.result = omega (arith, len, c.pop.new.self.ok.0) in
    let there = i.rest (length rest) c.in-Some.last (last_of rest c.loop-last.own.items c.in-Some.last items) in record {
      rest = λ k v at. i.rest k v (front rest c.loop-last.own.items c.in-Some.last k v items at);
      filed = λ places vs before. c.in_ok-file_last.ensures c.args.own.items places vs (subst (λ k. slice_get c.args.own.items k ≡ Some c.in-Some.last) same there) (i.filed places vs before);
    }
