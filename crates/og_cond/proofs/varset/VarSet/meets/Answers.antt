use Rattle.std.proofs.Common.{◌<◌, ◌^◌, get_or, arith, refl}
use Rattle.og_cond.proofs.SetBits.{common, apart}
use Rattle.og_cond.proofs.varset.VarSet.meets.Goals as goal

pub returns-then-self-k-ne0 : goal.returns-then-self-k-ne0
returns-then-self-k-ne0 c =
    let k = c.loop-k.k in
    let mine = c.args.self.now in
    let theirs = c.args.other.now in
    let small : get_or mine.words k 0 < 2 ^ 64 = omega arith in
    let large : get_or theirs.words k 0 < 2 ^ 64 = omega arith in
    (λ _. common mine.words theirs.words k c.if-self-k-ne0.true small large, λ _. refl)

pub returns : goal.returns
returns c =
    let mine = c.args.self.now in
    let theirs = c.args.other.now in
    (λ h. absurd (cc), λ h. absurd (apart mine.words theirs.words mine.full (λ i lt. c.loop-k.invariant i (omega arith)) h.0 h.1 h.2))
