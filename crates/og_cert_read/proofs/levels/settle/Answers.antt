use Rattle.std.proofs.Common.{◌<◌, subst, length, vec_len, None, Some, arith}
use Rattle.std.proofs.lemmas.Grind.{common_steps}
use Rattle.og_cert_read.specs.Levels.{IsPut, IsSettled, IsTakenInLast}
use Rattle.og_cert_read.proofs.OpenLevels.{settle_whole, settle_open, settle_end, empty_before}
use Rattle.og_cert_read.proofs.levels.settle.Goals as goal

pub loop-level-preserved : goal.loop-level-preserved
loop-level-preserved c = record {
  settles = λ new r s.
      c.loop-level.invariant.settles new r
      (settle_whole c.loop-level.levels.items c.pop.new.self.items new c.in-Some-pop.level c.loop-level.cert c.in-Whole.whole r c.in-Some-pop.ensures.items
      (subst (λ p. IsPut c.in-Some-pop.level c.loop-level.cert p) c.in-Whole.is c.in_ok-whole.ensures) s);
  fewer = omega arith;
}

pub returns-in-Open-clause-settled : goal.returns-in-Open-clause-settled
returns-in-Open-clause-settled c =
    let new = c.push.new.self.items in
    let left = subst (λ o. IsTakenInLast c.args.levels.now.items c.args.cert c.take_in_last.new.levels.items o) c.in-Some.is c.in_ok-rest.ensures.taken in
    subst (λ ls. IsSettled ls c.args.cert new None) left.1
    (subst (λ x. IsSettled c.take_in_last.new.levels.items x new None) left.0
    (c.loop-level.invariant.settles new None
    (settle_open c.loop-level.levels.items c.pop.new.self.items new c.in-Some-pop.level c.in-Open.level c.loop-level.cert c.in-Some-pop.ensures.items
    (subst (λ p. IsPut c.in-Some-pop.level c.loop-level.cert p) c.in-Open.is c.in_ok-whole.ensures) c.in_ok-push-in-Open.ensures.items)))

pub returns-clause-settled : goal.returns-clause-settled
returns-clause-settled c =
    let new = c.pop.new.self.items in
    let r = Some c.loop-level.cert in
    let left = subst (λ o. IsTakenInLast c.args.levels.now.items c.args.cert c.take_in_last.new.levels.items o) c.in-Some.is c.in_ok-rest.ensures.taken in
    subst (λ ls. IsSettled ls c.args.cert new r) left.1
    (subst (λ x. IsSettled c.take_in_last.new.levels.items x new r) left.0
    (c.loop-level.invariant.settles new r
    (settle_end c.loop-level.levels.items c.loop-level.cert new
    (empty_before c.loop-level.levels.items new (vec_len c.loop-level.levels) c.in_default-pop.ensures.items c.in_default-pop.ensures.rest c.in_default-pop.ensures.cases.0))))
