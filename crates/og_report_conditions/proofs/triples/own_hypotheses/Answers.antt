use Rattle.std.proofs.Common.{rules, ◌≡◌, ◌-◌, length, map, take, Some, option_map, sym, ap, ◌∙◌}
use Rattle.std.proofs.lemmas.List.{take-map, length-map}
use Rattle.og_cond.specs.Seen.{hypothesis_of}
use Rattle.og_subst.specs.Actions.{action_tree}
use Rattle.og_subst.specs.Trees.{Whole}
use Rattle.og_report_conditions.specs.Triples.{own_hypotheses}
use Rattle.og_typed.specs.Plain.{simple}
use Rattle.og_report_conditions.proofs.triples.own_hypotheses.Goals as goal

pub returns-in-Some-Await : goal.returns-in-Some-Await
returns-in-Some-Await c =
    let all = c.args.hypotheses.now in
    let shown : option_map action_tree c.args.action.now ≡ Some (Whole (map simple c.in-Some-Await.field-0-0.now)) = search rules in
    let counted : length (map hypothesis_of all) ≡ length all = simp length-map in
    ap (λ n. map hypothesis_of (take n all)) c.saturating_sub.ensures
    ∙ sym (take-map hypothesis_of (length all - 1) all)
    ∙ ap (λ n. take (n - 1) (map hypothesis_of all)) (sym counted)
    ∙ ap (λ a. own_hypotheses a (map hypothesis_of all)) (sym shown)
