use Rattle.std.proofs.Common.{◌≡◌, ◌++◌, [], drop}
use Rattle.og_report_text.specs.Values.{entries_text}
use Rattle.og_report_text.proofs.values.put_values.Given as goal

abbrev pub invariant-loop-var : goal.invariant-loop-var
invariant-loop-var l = l.text.items ++ entries_text l.names l.between l.values (drop l.var-index l.vars) ≡ l.initial.text.items ++ entries_text l.names [] l.values l.vars
