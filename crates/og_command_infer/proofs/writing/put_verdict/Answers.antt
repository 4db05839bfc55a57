use Rattle.std.proofs.Common.{◌++◌}
use Rattle.std.specs.Prelude.{codes}
use Rattle.og_report_prove.proofs.Joins.{joined}
use Rattle.og_command_infer.specs.Printed.{yes_or_no}
use Rattle.og_command_infer.proofs.writing.put_verdict.Goals as goal

pub returns : goal.returns
returns c =
    joined c.put_answer-2.result c.args.text.now.items c.put_answer.new.text.items c.put_answer-2.new.text.items
    (codes "; safe: " ++ yes_or_no c.args.safe) (codes ", unblocked: " ++ yes_or_no c.args.unblocked)
    c.in_ok-put_answer.ensures c.put_answer-2.ensures
