use Rattle.std.proofs.Common.{◌≡◌, ◌+ℤ◌, ◌*ℤ◌, get_or, rules, ap, ap₂, subst, ◌∙◌, FitsSigned}
use Rattle.std.specs.Prelude.{slice_get}
use mir.Syntax.{w128}
use Rattle.std.proofs.lemmas.Int.{to_z-of_z}
use Rattle.og_search_rows.specs.Inequality.{left_side}
use Rattle.og_search_rows.specs.Rows.{left_of}
use Rattle.og_search_rows.proofs.Following.{total_turn}
use Rattle.og_search_rows.proofs.rows.Rows.total.Goals as goal

pub loop-part-preserved : goal.loop-part-preserved
loop-part-preserved c =
    let same = c.self-in-loop-part.view_is ∙ c.loop-part.invariant.same in
    record {
      same = same;
      sum = λ s.
          let rows = c.args.self.now.rows in
          let part = get_or c.args.sum.now c.loop-part.part-index (record { times = 0; row = 0 }) in
          let m = c.times.result.times in
          let n = c.times-next.result.times in
          let n_fits : FitsSigned w128 c.from.result = search rules in
          let sums = rw c.in-Some.is at c.in_ok-more.ensures in
          let form = subst (λ rs. left_side c.form.result.now s ≡ left_of (slice_get rs part.row) s) (ap (λ v. v.rows) same) (c.form.ensures s) in
          total_turn rows c.args.sum.now s c.loop-part.part-index (record { times = 0; row = 0 }) m n (left_side c.loop-part.total s) (left_side c.form.result.now s) _ _ c.loop-part-test.true
          c.times.ensures.times (c.times-next.ensures.times ∙ to_z-of_z w128 c.from.result n_fits ∙ c.from.ensures) form
          (ap (λ f. left_side f s) c.replace-spent.ensures.after ∙ (sums s ∙ ap₂ (λ x y. m *ℤ left_side x s +ℤ n *ℤ left_side y s) c.times.ensures.form c.times-next.ensures.form)) (c.loop-part.invariant.sum s);
    }
