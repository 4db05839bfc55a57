use Rattle.std.proofs.Common.{◌<◌, ℤ, length, FitsSigned, rules, sym, ap, ◌∙◌}
use mir.Syntax.{w128}
use Rattle.std.specs.Prelude.{slice_set}
use Rattle.std.proofs.lemmas.Int.{to_z-of_z}
use Rattle.og_linear.proofs.Put.{put_set}
use Rattle.og_subst.proofs.values.Values.set.Goals as goal

pub returns : goal.returns
returns c =
    let fits : FitsSigned w128 c.args.value = search rules in
    let inside : c.args.var < length c.args.self.now = search rules in
    ap (λ (v : ℤ). slice_set c.self.inside.numbers.items c.args.var v) (to_z-of_z w128 c.args.value fits)
    ∙ ap (λ s. slice_set s c.args.var c.args.value) c.self.view_is
    ∙ sym (put_set c.args.self.now c.args.var c.args.value inside)
