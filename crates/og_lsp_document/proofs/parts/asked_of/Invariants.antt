use Rattle.std.proofs.Common.{◌≡◌, ◌≤◌, ℕ, drop, map, None}
use Rattle.std.specs.Prelude.{IfSome}
use Rattle.og_cond.specs.Seen.{seen}
use Rattle.og_lsp_document.specs.Parts.{asked, found, with_all}
use Rattle.og_lsp_diagnostics.specs.Said.{rows_of}
use Rattle.og_lsp_document.proofs.parts.asked_of.Given as goal

abbrev pub invariant-loop-index : goal.invariant-loop-index
invariant-loop-index l = record {
  whole : (p : ℕ) → with_all p (found p l.asked) (asked (rows_of l.teller.page) (drop l.index (map seen l.conditions)) (drop l.index l.diagnoses)) ≡ with_all p None (asked (rows_of l.teller.page) (map seen l.conditions) l.diagnoses);
  few : (p : ℕ) → IfSome (found p l.asked) (λ c. (c.conditions ≤ l.index) × (c.unproved ≤ l.index));
}
