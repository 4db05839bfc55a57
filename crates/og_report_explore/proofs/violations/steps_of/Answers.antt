use Rattle.std.proofs.Common.{◌≡◌, ◌+◌, ◌-◌, ◌++◌, [], ◌∷◌, ◌<◌, length, take, get_or, Some, IfSome, refl, sym, ap, ◌∙◌, subst, arith}
use Rattle.og_typed.specs.Machine.{run_on}
use Rattle.og_report_explore.specs.Findings.{IsRow, AreRows}
use Rattle.og_report_explore.proofs.Tables.{rows_lead, rows_more, take_more}
use Rattle.og_report_explore.proofs.violations.steps_of.Goals as goal

pub loop-p-preserved : goal.loop-p-preserved
loop-p-preserved c =
    let o = c.args.outline.now in
    let m = c.args.moment.now.moment in
    let history = c.args.history.now in
    let i = c.loop-p.p-index in
    let p = get_or history i 0 in
    let lt : i < length history = omega (arith, c.loop-p-test.true) in
    let old = c.loop-p.moment in
    let new = c.row.new.moment in
    let is = subst (λ x. IfSome x (λ row. (new.outline ≡ old.outline) × IsRow o old.moment new.moment p row)) c.in-Some.is c.in_ok-row.ensures in
    let same : (i + 1) - 1 ≡ i = omega arith in
    record {
      outline = is.0 ∙ c.loop-p.invariant.outline;
      rows = subst (λ h. AreRows o m h c.push.new.self.items new.moment) (sym (take_more history i p lt refl))
          (subst (λ rows. AreRows o m (take i history ++ p ∷ []) rows new.moment) (sym c.in_ok-push.ensures.items)
          (rows_more o m (take i history) c.loop-p.rows.items old.moment new.moment p c.in-Some.row c.loop-p.invariant.rows is.1));
      before = (
        old.moment,
        ap (λ k. run_on (take k history) (Some m)) same ∙ rows_lead o m (take i history) c.loop-p.rows.items old.moment c.loop-p.invariant.rows,
        c.in_ok-before-2.ensures ∙ c.state-in-loop-p.ensures,
      );
    }
