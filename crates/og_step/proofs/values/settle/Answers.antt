use Rattle.std.proofs.Common.{◌≡◌, ◌+◌, ◌<◌, ◌∷◌, map, drop, length, FitsSigned, rules, sym, ap, ◌∙◌, subst}
use Rattle.std.specs.List.{AllByRecursion}
use Rattle.std.proofs.lemmas.Int.{to_z-of_z}
use mir.Syntax.{w64}
use Rattle.og_linear.specs.Linear.{put, value_at}
use Rattle.og_typed.specs.Plain.{simple}
use Rattle.og_typed.specs.Rule.{IsUsableSimple}
use Rattle.og_typed.specs.declared.statement.Basic.TheVariants as basic
use Rattle.og_typed.specs.Syntax.{Pass, Set}
use Rattle.og_step.specs.Actions.{assigns}
use Rattle.og_step.proofs.Actions.{cut_at, put_length, settle_one, settle_end}
use Rattle.og_step.proofs.values.settle.Goals.{in-Assign, in_default}
use Rattle.og_step.proofs.values.settle.Goals as goal

pub loop-basic-preserved : goal.loop-basic-preserved
loop-basic-preserved c =
    let body = c.args.body.now in
    let i = c.loop-basic.basic-index in
    let from = c.args.from.now in
    let to = c.loop-basic.to in
    let n = length from in
    let rest = map simple (drop (i + 1) body) in
    let inv = c.loop-basic.invariant in
    elim c.match-basic.branch [
      | in-Assign w ↦
          let y = w.in-Assign.var in
          let e = w.in-Assign.field-1 in
          let cut : map simple (drop i body) ≡ Set y e ∷ rest = cut_at body i c.basic-item.result (basic.Assign y e) c.loop-basic-test.true c.basic-item.is w.in-Assign.is in
          let follows = subst (AllByRecursion (IsUsableSimple n)) cut inv.usable in
          let inside : y < length to = subst (λ m. y < m) (sym inv.long) follows.0.0 in
          let short : FitsSigned w64 (value_at w.as_slice.result.now y) = search rules in
          let new : c.match-basic.to ≡ put to y (value_at from y) =
          w.to-is ∙ w.set.ensures ∙ ap (put to y) (to_z-of_z w64 (value_at w.as_slice.result.now y) short ∙ ap (λ s. value_at s y) w.as_slice.ensures) in
          record {
            long = ap length new ∙ put_length to y (value_at from y) inside ∙ inv.long;
            usable = follows.1;
            others = settle_one (map simple (drop i body)) rest y e from to c.match-basic.to cut new inv.others;
          }
      | in_default w ↦
          let cut : map simple (drop i body) ≡ Pass ∷ rest = cut_at body i c.basic-item.result basic.Skip c.loop-basic-test.true c.basic-item.is w.in_default.is in
          record {
            long = ap length w.to-is ∙ inv.long;
            usable = (subst (AllByRecursion (IsUsableSimple n)) cut inv.usable).1;
            others = λ x h. ap (λ r. value_at r x) w.to-is ∙ inv.others x (ap (assigns x) cut ∙ h);
          }
    ]

pub returns : goal.returns
returns c =
    settle_end c.args.body.now c.loop-basic.basic-index c.args.from.now c.loop-basic.to c.loop-basic-test.false c.loop-basic.invariant.long c.loop-basic.invariant.others
