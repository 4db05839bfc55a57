use Rattle.std.proofs.Common.{◌≡◌, ◌+◌, ℕ, drop, map}
use Rattle.og_cond.specs.Seen.{seen}
use Rattle.og_report_html.specs.Marks.{found, with_all, mark_at}
use Rattle.og_report_html.proofs.marks.marks_of.Given as goal

abbrev pub invariant-loop-index : goal.invariant-loop-index
invariant-loop-index l = (p : ℕ) → with_all l.rows p (found p l.marks) (l.index + 1) (drop l.index (map seen l.conditions)) (drop l.index l.diagnoses) (drop l.index l.targets) ≡ mark_at l.rows (map seen l.conditions) l.diagnoses l.targets p
