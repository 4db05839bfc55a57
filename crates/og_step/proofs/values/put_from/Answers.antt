use Rattle.std.proofs.Common.{◌≡◌, ◌≢◌, ℕ, ◌+◌, ◌<◌, ℤ, List, length, ap, ◌∙◌, FitsSigned, rules, arith, below_more}
use Rattle.std.proofs.lemmas.Int.{to_z-of_z}
use mir.Syntax.{w64}
use Rattle.og_linear.specs.Linear.{put, value_at}
use Rattle.og_linear.proofs.Put.{put_same, put_other}
use Rattle.og_step.proofs.Actions.{put_length}
use Rattle.og_step.proofs.values.put_from.Goals as goal

more : (s vs : List ℤ) (from x : ℕ) → ((k : ℕ) → k < x → value_at s (from + k) ≡ value_at vs k) → (k : ℕ) → k < x + 1 → value_at (put s (from + x) (value_at vs x)) (from + k) ≡ value_at vs k
more s vs from x done =
    below_more _ _
    (λ k lt. let ne : from + k ≢ from + x = omega (arith, lt) in put_other s (from + x) (from + k) (value_at vs x) ne ∙ done k lt)
    (put_same s (from + x) (value_at vs x))

pub loop-x-preserved : goal.loop-x-preserved
loop-x-preserved c =
    let s = c.loop-x.state in
    let vs = c.args.values.now in
    let x = c.loop-x.x in
    let from = c.args.from in
    let fits : FitsSigned w64 (value_at vs x) = search rules in
    let new : c.set.new.self ≡ put s (from + x) (value_at vs x) = c.set.ensures ∙ ap (put s (from + x)) (to_z-of_z w64 (value_at vs x) fits) in
    let long = c.loop-x.invariant.long in
    let inside = c.requires.inside in
    let lt = c.loop-x-test.true in record {
      long = ap length new ∙ put_length s (from + x) (value_at vs x) (omega (arith, lt, long, inside)) ∙ long;
      put = λ k h. ap (λ r. value_at r (from + k)) new ∙ more s vs from x c.loop-x.invariant.put k h;
      before = λ k h. let ne : k ≢ from + x = omega (arith, h) in ap (λ r. value_at r k) new ∙ put_other s (from + x) k (value_at vs x) ne ∙ c.loop-x.invariant.before k h;
    }
