use Rattle.std.proofs.Common.{◌≡◌, ◌++◌}
use Rattle.og_report_refusal.specs.Starting.{start_words}
use Rattle.og_report_refusal.proofs.starting.put_words.Given as goal

abbrev pub invariant-loop-var : goal.invariant-loop-var
invariant-loop-var l = l.text.items ≡ l.initial.text.items ++ start_words l.names l.values l.start l.var
