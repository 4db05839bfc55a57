use Rattle.std.proofs.Common.{◌≡◌, ◌++◌, ◌+◌, ℕ, suc, subst, arith}
use Rattle.og_report_refusal.specs.Starting.{start_value, start_values}
use Rattle.og_report_refusal.proofs.Joins.{then}
use Rattle.og_report_refusal.proofs.starting.put_start_values.Goals as goal

pub loop-var-preserved : goal.loop-var-preserved
loop-var-preserved c =
    let n = c.loop-var.var in
    let names = c.args.names.now in
    let values = c.args.values.now in
    let all = c.put_start_value.new.text.items in
    let old = c.args.text.now.items in
    let next : suc n ≡ n + 1 = omega arith in
    subst (λ (m : ℕ). all ≡ old ++ start_values names values m) next
    (then all c.loop-var.text.items (start_values names values n) (start_value names values n) old c.loop-var.invariant c.in_ok-put_start_value.ensures)
