use Rattle.std.proofs.Common.{option_map}
use Rattle.std.specs.Prelude.{codes}
use Rattle.og_cond.specs.Condition.{assignments}
use Rattle.og_cond.specs.Seen.{goal_of}
use Rattle.og_subst.specs.Actions.{action_tree}
use Rattle.og_typed.proofs.Within.{on_ok}
use Rattle.og_report_conditions.specs.Script.{goal_text, ending_text}
use Rattle.og_report_conditions.proofs.Sums.{three}
use Rattle.og_report_conditions.proofs.whole.put_asked.Goals as goal

pub returns : goal.returns
returns c =
    on_ok c.put_ending.result _ _ c.put_ending.ensures
    (λ e. three c.args.text.now.items c.extend_from_slice.new.self.items c.put_goal.new.text.items c.put_ending.new.text.items (codes "(assert (not ")
    (goal_text c.args.names.now (assignments (option_map action_tree c.args.condition.now.action)) (goal_of c.args.condition.now.goal)) ending_text
    c.in_ok-extend_from_slice.ensures.items c.in_ok-put_goal.ensures e)
