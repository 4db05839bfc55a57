use Rattle.std.proofs.Common.{◌≡◌, ◌++◌, [], drop}
use Rattle.og_report_text.specs.Values.{names_text}
use Rattle.og_report_text.proofs.values.put_names.Given as goal

abbrev pub invariant-loop-var : goal.invariant-loop-var
invariant-loop-var l = l.text.items ++ names_text l.names l.between (drop l.var-index l.vars) ≡ l.initial.text.items ++ names_text l.names [] l.vars
