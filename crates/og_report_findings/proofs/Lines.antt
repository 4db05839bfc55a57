-- The lines of the processes, one after another.
use Rattle.std.proofs.Common.{◌≡◌, ◌∙◌, ℕ, suc, zero, ◌+◌, ◌-◌, ◌<◌, List, ◌++◌, ap, arith}
use Rattle.std.proofs.lemmas.List.{append-nil}
use Rattle.og_report_text.specs.Origins.{Rows}
use Rattle.og_report_findings.specs.Alike.{part_with, places_of, process_line, process_lines}
use Rattle.og_report_findings.specs.declared.places.Other.{Other}

module _ (source : List ℕ) (rows : Rows) (main : ℕ) (others : List Other) where
  -- what the process with this number and those behind it have
  abbrev pub lines_from : ℕ → List ℕ
  lines_from p = process_lines source rows main others p ((main - p) + 1)

  pub all_lines : lines_from 0 ≡ process_lines source rows main others 0 (main + 1)
  all_lines = let same : (main - 0) + 1 ≡ main + 1 = omega arith in ap (process_lines source rows main others 0) same

  pub next_line : (p : ℕ) → p < main → lines_from p ≡ process_line source rows (part_with main p) (places_of p others) ++ lines_from (p + 1)
  next_line p h = let same : (main - p) + 1 ≡ suc ((main - (p + 1)) + 1) = omega arith in ap (process_lines source rows main others p) same

  pub last_line : lines_from main ≡ process_line source rows (part_with main main) (places_of main others)
  last_line =
      let same : (main - main) + 1 ≡ suc zero = omega arith in
      ap (process_lines source rows main others main) same ∙ append-nil (process_line source rows (part_with main main) (places_of main others))
