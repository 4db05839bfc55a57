use Rattle.std.proofs.Common.{◌≡◌, ◌++◌, ℕ, drop, map}
use Rattle.og_report_html.specs.Conjuncts.{claim_of}
use Rattle.og_report_html.specs.Marks.{found}
use Rattle.og_report_html.specs.Edges.{edges_from}
use Rattle.og_report_html.proofs.edge.add_claims.Given as goal

abbrev pub invariant-loop-index : goal.invariant-loop-index
invariant-loop-index l =
    l.edges.items ++ edges_from l.source l.marked.rows (λ (p : ℕ). found p l.marked.marks.now) l.marked.diagnoses.now l.shared (drop l.index (map claim_of l.claims))
    ≡ l.initial.edges.items ++ edges_from l.source l.marked.rows (λ (p : ℕ). found p l.marked.marks.now) l.marked.diagnoses.now l.shared (map claim_of l.claims)
