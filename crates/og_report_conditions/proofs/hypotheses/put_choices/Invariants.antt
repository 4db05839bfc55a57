use Rattle.std.proofs.Common.{◌≡◌, ◌++◌, drop, map}
use Rattle.og_cond.specs.Seen.{parts_of}
use Rattle.og_report_conditions.specs.Script.{choices_text}
use Rattle.og_report_conditions.proofs.hypotheses.put_choices.Given as goal

abbrev pub invariant-loop-choice : goal.invariant-loop-choice
invariant-loop-choice l = l.text.items ++ choices_text l.names (map parts_of (drop l.choice-index l.choices)) ≡ l.initial.text.items ++ choices_text l.names (map parts_of l.choices)
