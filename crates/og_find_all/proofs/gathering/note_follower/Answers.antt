use Rattle.std.proofs.Common.{◌≡◌, ◌+◌, ◌-◌, ℕ, Some, None, refl, ap, ◌∙◌, subst, arith}
use Rattle.std.specs.Prelude.{slice_get, Option, IsSomeAnd}
use Rattle.og_find_all.specs.Findings.{IsKnownAt}
use Rattle.std.proofs.lemmas.Option.{slice_get_read}
use Rattle.og_find_all.proofs.gathering.note_follower.Goals as goal

pub returns : goal.returns
returns c = λ cs verdicts tried before.
    let own = c.args.own.now in
    let followers = c.args.followers.now in
    let follower = c.in-Some.follower.now in
    let its : slice_get own c.args.place ≡ Some c.in-Some-None.field-0.now = slice_get_read own _ _ _ refl c.in-Some-None.ensures.lookup.3.0 c.in-Some-None.ensures.lookup.1 in
    let at : slice_get followers c.args.place ≡ Some follower = slice_get_read followers _ _ _ refl c.in-Some.ensures.lookup.3.0 c.in-Some.ensures.lookup.1 in
    let back : c.args.place ≡ c.args.place + 1 - 1 = omega arith in
    let led = tried c.args.place None (its ∙ ap Some c.in-Some-None.field-0-is) follower (subst (λ (k : ℕ). slice_get followers k ≡ Some follower) back at) in
    c.note.ensures cs verdicts (subst (λ (leader : Option ℕ). IsSomeAnd leader (IsKnownAt cs verdicts follower.index)) c.in-Some-leader.is led) before
