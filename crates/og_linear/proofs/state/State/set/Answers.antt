use Rattle.std.proofs.Common.{sym, ap, ◌∙◌, set}
use Rattle.std.proofs.lemmas.Int.{to_z-of_z}
use mir.Syntax.{w64}
use Rattle.og_linear.proofs.Put.{put_set}
use Rattle.og_linear.proofs.state.State.set.Goals as goal

pub returns : goal.returns
returns c =
    ap (set c.self.inside.values.items c.args.var) (to_z-of_z w64 c.args.value c.ranges.value)
    ∙ ap (λ s. set s c.args.var c.args.value) c.self.view_is
    ∙ sym (put_set c.args.self.now c.args.var c.args.value c.requires)
