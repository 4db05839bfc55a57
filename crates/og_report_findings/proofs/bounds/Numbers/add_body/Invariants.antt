use Rattle.std.proofs.Common.{◌≡◌, drop, map, option_map}
use Rattle.og_typed.specs.Plain.{simple}
use Rattle.og_report_findings.specs.Bounds.{with_body}
use Rattle.og_report_findings.proofs.bounds.Numbers.add_body.Given as goal

abbrev pub invariant-loop-basic : goal.invariant-loop-basic
invariant-loop-basic l = with_body l.var (map simple (drop l.basic-index l.body)) (option_map (λ v. v.items) l.self.list) ≡ with_body l.var (map simple l.body) (option_map (λ v. v.items) l.initial.self.list)
