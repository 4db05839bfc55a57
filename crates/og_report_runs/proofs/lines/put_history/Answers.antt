use Rattle.std.proofs.Common.{◌≡◌, ◌≤◌, ◌++◌, [], ℕ, List, length, Bool, true, ap, sym, subst, arith, codes}
use Rattle.std.specs.Prelude.{OnOk, nat_le, if◌then◌else◌}
use Rattle.std.specs.Fmt.{decimal}
use Rattle.std.proofs.lemmas.Bool.Decides.{nat_tests}
use Rattle.og_report_text.specs.Places.{◌&◌}
use Rattle.og_report_prove.proofs.Joins.{joined}
use Rattle.og_report_runs.specs.Lines.{steps_text}
use Rattle.og_report_runs.proofs.lines.put_history.Goals as goal

pub returns-then-history-le-MOST_STEPS : goal.returns-then-history-le-MOST_STEPS
returns-then-history-le-MOST_STEPS c =
    let main = c.args.main in
    let ps = c.args.history.now in
    let r = c.put_steps.result in
    let t0 = c.args.text.now.items in
    let t1 = c.extend_from_slice.new.self.items in
    let a1 = codes "a run gets there: " in
    let a2 = steps_text main [] ps in
    let within : length ps ≤ 40 = c.if-history-le-MOST_STEPS.true in
    let few : nat_le (length ps) 40 ≡ true = grind (arith, nat_tests) in
    let e1 : t1 ≡ t0 ++ a1 = c.in_ok-extend_from_slice.ensures.items in
    let chosen = ap (λ (b : Bool). if b then a1 & a2 else (codes "a run gets there in " & decimal (length ps) & codes " steps")) few in
    subst (λ (l : List ℕ). OnOk r (c.put_steps.new.text.items ≡ t0 ++ l)) (sym chosen) (joined r t0 t1 _ a1 a2 e1 c.put_steps.ensures)
