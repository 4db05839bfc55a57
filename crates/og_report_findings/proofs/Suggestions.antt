-- The line of one suggestion more.
use Rattle.std.proofs.Common.{◌≡◌, ◌∙◌, ◌++◌, ◌<◌, ℕ, ◌+◌, List, drop, length, get_or, sym, ap, append_assoc}
use Rattle.std.proofs.lemmas.List.{drop_more}
use Rattle.og_report_text.specs.Origins.{Rows}
use Rattle.og_report_findings.specs.Suggested.{suggestion_line, suggestion_lines}
use Rattle.og_report_findings.specs.declared.suggestion.Suggestion.{Suggestion}

module _ (names : List (List ℕ)) (source : List ℕ) (rows : Rows) where
  pub one_more : (ss : List Suggestion) (i : ℕ) (s : Suggestion) (before after whole : List ℕ) → i < length ss → s ≡ get_or ss i s → after ≡ before ++ suggestion_line names source rows s
      → before ++ suggestion_lines names source rows (drop i ss) ≡ whole → after ++ suggestion_lines names source rows (drop (i + 1) ss) ≡ whole
  one_more ss i s before after whole lt is made e =
      let line = suggestion_line names source rows in
      let later = suggestion_lines names source rows (drop (i + 1) ss) in
      let here : suggestion_lines names source rows (drop i ss) ≡ line (get_or ss i s) ++ later = ap (suggestion_lines names source rows) (drop_more ss i s lt) in
      ap (λ (l : List ℕ). l ++ later) (made ∙ ap (λ (z : Suggestion). before ++ line z) is)
      ∙ (append_assoc before (line (get_or ss i s)) later ∙ (ap (λ (l : List ℕ). before ++ l) (sym here) ∙ e))
