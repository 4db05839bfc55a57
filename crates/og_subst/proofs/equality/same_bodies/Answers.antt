use Rattle.std.proofs.Common.{◌≡◌, length, rules, sym, ◌∙◌}
use Rattle.std.proofs.lemmas.Bool.{false≢true}
use Rattle.og_typed.specs.Plain.{simple}
use Rattle.og_subst.proofs.Equal.{same_at}
use Rattle.og_subst.proofs.equality.same_bodies.Goals as goal

pub returns-then-not-same_basics : goal.returns-then-not-same_basics
returns-then-not-same_basics c =
    let long : length c.args.a.now ≡ length c.args.b.now = search rules in (
      λ e. absurd (false≢true e),
      λ e. sym c.if-not-same_basics.true ∙ c.same_basics.ensures.1 (same_at simple c.args.a.now c.args.b.now c.loop-i.i c.index-a-i.result c.index-b-i.result c.loop-i-test.true long c.index-a-i.is c.index-b-i.is e),
    )
