use Rattle.std.proofs.Common.{◌≡◌, ◌+◌, ◌<◌, ◌∷◌, map, drop, length, if◌then◌else◌, sym, ap, ◌∙◌, subst}
use Rattle.std.specs.List.{AllByRecursion}
use Rattle.og_linear.specs.Linear.{put, val, value_at}
use Rattle.og_typed.specs.Plain.{simple}
use Rattle.og_typed.specs.Machine.{act, all_fit}
use Rattle.og_typed.specs.Rule.{IsUsableSimple}
use Rattle.og_typed.specs.declared.statement.Basic.TheVariants as basic
use Rattle.og_typed.specs.Syntax.{Pass, Set}
use Rattle.og_step.proofs.Actions.{cut_at, put_length, set_fits, set_acts, set_others}
use Rattle.og_step.proofs.values.run.Goals.{in-Assign+else-not-put_value, in_default}
use Rattle.og_step.proofs.values.run.Goals as goal

pub loop-basic-preserved : goal.loop-basic-preserved
loop-basic-preserved c =
    let body = c.args.body.now in
    let i = c.loop-basic.basic-index in
    let s = c.loop-basic.state in
    let n = length c.args.state.now in
    let rest = map simple (drop (i + 1) body) in
    let inv = c.loop-basic.invariant in
    elim c.match-basic.branch [
      | in-Assign+else-not-put_value w ↦
          let y = w.in-Assign.var in
          let e = w.in-Assign.form in
          let cut : map simple (drop i body) ≡ Set y e ∷ rest = cut_at body i c.basic-item.result (basic.Assign y e) c.loop-basic-test.true c.basic-item.is w.in-Assign.is in
          let follows = subst (AllByRecursion (IsUsableSimple n)) cut inv.usable in
          let inside : y < length s = subst (λ m. y < m) (sym inv.long) follows.0.0 in
          let new : c.match-basic.state ≡ put s y (val e s) =
          w.state-is ∙ w.put_value.ensures.put ∙ ap (λ b. if b then put s y (val e s) else s) w.if-not-put_value.false in
          record {
            fits = set_fits rest y e s c.match-basic.state new (map simple (drop i body)) _ cut (sym w.put_value.ensures.fits ∙ w.if-not-put_value.false) inv.fits;
            done = set_acts rest y e s c.match-basic.state new (map simple (drop i body)) _ cut inv.done;
            long = ap length new ∙ put_length s y (val e s) inside ∙ inv.long;
            usable = follows.1;
            others = set_others body i y e s c.match-basic.state c.args.state.now (val e s) new cut inv.others;
          }
      | in_default w ↦
          let cut : map simple (drop i body) ≡ Pass ∷ rest = cut_at body i c.basic-item.result basic.Skip c.loop-basic-test.true c.basic-item.is w.in_default.is in
          record {
            fits = ap (all_fit rest) w.state-is ∙ sym (ap (λ m. all_fit m s) cut) ∙ inv.fits;
            done = ap (act rest) w.state-is ∙ sym (ap (λ m. act m s) cut) ∙ inv.done;
            long = ap length w.state-is ∙ inv.long;
            usable = (subst (AllByRecursion (IsUsableSimple n)) cut inv.usable).1;
            others = λ x h. ap (λ r. value_at r x) w.state-is ∙ inv.others x h;
          }
    ]
