use Rattle.std.proofs.Common.{◌≡◌, drop, map}
use Rattle.og_typed.specs.Plain.{noted}
use Rattle.og_report_findings.specs.Bounds.{is_bounded}
use Rattle.og_report_findings.proofs.bounds.is_bounded.Given as goal

abbrev pub invariant-loop-note : goal.invariant-loop-note
invariant-loop-note l = is_bounded l.others l.var (map (λ n. noted n.now) l.known) ≡ is_bounded l.others l.var (map (λ n. noted n.now) (drop l.note-index l.known))
