use Rattle.std.proofs.Common.{◌≡◌, ℕ, ◌+◌, ◌-◌, Some, length, refl, sym, subst, arith}
use Rattle.std.specs.Prelude.{slice_get}
use Rattle.std.proofs.lemmas.Option.{slice_get_read}
use Rattle.og_find_all.specs.Findings.{IsTried, IsVerdictAt}
use Rattle.og_find_all.proofs.Filed.{front, last_of}
use Rattle.og_find_all.proofs.gathering.Gathered.add_all.Goals as goal

pub loop-last-preserved-in-Continue-1 : goal.loop-last-preserved-in-Continue-1
loop-last-preserved-in-Continue-1 c =
    let i = c.loop-last.invariant in
    let items = c.in-Some.ensures.items in
    let rest = c.pop.new.self.items in
    let len = c.len.ensures in
    let back : c.len.result ≡ length rest + 1 - 1 = omega (arith, len, c.pop.new.self.ok.0) in
    let followers = c.args.followers.now in
    let follower = c.in-Some-get.follower.now in
    let found : slice_get followers c.len.result ≡ Some follower = slice_get_read followers _ _ _ refl c.in-Some-get.ensures.lookup.3.0 c.in-Some-get.ensures.lookup.1 in
    let at = subst (λ (k : ℕ). slice_get followers k ≡ Some follower) back found in
    let there = i.rest (length rest) c.in-Some.last (last_of rest c.loop-last.own.items c.in-Some.last items) in record {
      rest = λ k o at. i.rest k o (front rest c.loop-last.own.items c.in-Some.last k o items at);
      known = λ cs led tried before.
          let its = subst (IsTried cs led follower) c.in-Some-last.is (tried (length rest) c.in-Some.last there follower at) in
          c.in_ok-add.ensures cs (subst (λ v. IsVerdictAt cs follower.index v) (sym c.into_inner.ensures) its) (i.known cs led tried before);
    }

pub loop-last-preserved : goal.loop-last-preserved
loop-last-preserved c =
    let i = c.loop-last.invariant in
    let items = c.in-Some.ensures.items in record {
      rest = λ k o at. i.rest k o (front c.pop.new.self.items c.loop-last.own.items c.in-Some.last k o items at);
      known = i.known;
    }
