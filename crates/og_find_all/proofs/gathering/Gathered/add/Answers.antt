use Rattle.std.proofs.Common.{◌≡◌, [], ◌∷◌, ◌++◌, length, subst, sym, arith}
use Rattle.og_find_all.specs.Findings.{AreKnown, IsKnownAt}
use Rattle.og_find_all.proofs.Gathered.{known_more, last_known}
use Rattle.og_find_all.proofs.gathering.Gathered.add.Goals as goal

pub returns : goal.returns
returns c = λ cs its before.
    let index = c.args.follower.index in
    let verdicts = c.args.self.now.verdicts.items in
    let known = c.args.self.now.known.items in
    let v = c.args.own in
    let count = c.len-place.ensures in
    let whole = c.args.self.now.verdicts.ok.0 in
    let len : length verdicts ≡ c.len-place.result = omega (arith, count, whole) in
    let last = subst (λ p. IsKnownAt cs (verdicts ++ v ∷ []) index p) len (last_known cs verdicts v index its) in
    let items = sym c.in_ok-push-2.ensures.items in
    c.note.ensures cs c.push-2.new.self.items (subst (λ vs. IsKnownAt cs vs index c.len-place.result) items last)
    (subst (λ vs. AreKnown cs vs known) items (known_more cs verdicts v known before))
