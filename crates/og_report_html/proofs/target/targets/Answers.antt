use Rattle.std.proofs.Common.{◌≡◌, ◌≤◌, ◌+◌, ◌∙◌, ℕ, [], Some, length, map, drop, refl, ap, sym, subst, rules}
use Rattle.std.specs.Prelude.{slice_get, option_map}
use Rattle.std.proofs.lemmas.List.{drop_all, length-map}
use Rattle.std.proofs.lemmas.Option.{slice_get-map, slice_get_read}
use Rattle.og_cond.specs.Seen.{seen}
use Rattle.og_report_prove.proofs.Lists.{dropped}
use Rattle.og_report_html.proofs.Targeting.{MakesAll, all_go_on, all_end}
use Rattle.og_report_html.proofs.target.targets.Goals as goal

pub loop-i-preserved : goal.loop-i-preserved
loop-i-preserved c =
    let o = c.args.outline.now in
    let list = c.args.conditions.now in
    let cs = map seen list in
    let i = c.loop-i.i in
    let condition = c.index-conditions-i.result in
    let is : slice_get cs i ≡ Some (seen condition) =
    slice_get-map seen list i ∙ ap (option_map seen) (slice_get_read list (length list) i condition refl c.loop-i-test.true c.index-conditions-i.is) in
    let rest = drop (i + 1) cs in
    let before = subst (λ l. MakesAll o cs l c.loop-i.all.items) (dropped cs i (seen condition) is) c.loop-i.invariant.targets in
    record {
      targets = subst (MakesAll o cs rest) (sym c.in_ok-push.ensures.items) (all_go_on o cs rest (seen condition) c.loop-i.all.items c.target_of.result c.target_of.ensures before);
      each = search rules;
    }

pub returns-clause-targets : goal.returns-clause-targets
returns-clause-targets c =
    let list = c.args.conditions.now in
    let cs = map seen list in
    let i = c.loop-i.i in
    let past : length list ≤ i = search rules in
    let none : drop i cs ≡ [] = drop_all i cs (subst (λ (n : ℕ). n ≤ i) (sym (length-map list seen)) past) in
    all_end c.args.outline.now cs (drop i cs) c.loop-i.all.items none c.loop-i.invariant.targets
