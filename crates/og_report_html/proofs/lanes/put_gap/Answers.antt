use Rattle.std.proofs.Common.{◌≡◌, ◌++◌, [], ℕ, List, Bool, false, nat_eq, ap, sym, subst, arith, codes, rules}
use Rattle.std.specs.Prelude.{OnOk, if◌then◌else◌}
use Rattle.std.specs.Fmt.{decimal}
use Rattle.std.proofs.lemmas.Bool.Decides.{nat_tests}
use Rattle.og_report_text.specs.Places.{◌&◌}
use Rattle.og_report_html.proofs.lanes.put_gap.Goals as goal

pub returns : goal.returns
returns c =
    let lanes = c.args.lanes in
    let r = c.put_number_between.result in
    let t0 = c.args.text.now.items in
    let a1 = codes "<td colspan=" in
    let a2 = decimal lanes in
    let a3 = codes ">" in
    let some : nat_eq lanes 0 ≡ false = grind (arith, nat_tests) in
    let chosen = ap (λ (b : Bool). if b then [] else (a1 & a2 & a3)) some in
    let put : OnOk r (c.put_number_between.new.text.items ≡ t0 ++ (a1 & a2 & a3)) = search rules in
    subst (λ (l : List ℕ). OnOk r (c.put_number_between.new.text.items ≡ t0 ++ l)) (sym chosen) put
