use Rattle.std.proofs.Common.{◌≡◌, drop}
use Rattle.serde_json.specs.View.{members_view}
use Rattle.og_report_prove.specs.Members.{with_values}
use Rattle.og_report_prove.proofs.values.put_values.Given as goal

abbrev pub invariant-loop-var : goal.invariant-loop-var
invariant-loop-var l =
    with_values l.names l.numbers l.values (drop l.var-index l.vars) (members_view l.members.entries) ≡ with_values l.names l.numbers l.values l.vars (members_view l.initial.members.entries)
