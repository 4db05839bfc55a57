-- The blocks tell of each condition that is not proved once.
use Rattle.std.proofs.Common.{◌≡◌, ◌∙◌, ℕ, ◌≤◌, List, [], length, arith}
use Rattle.std.proofs.lemmas.List.Sorted.{length_permutation, sum_by-IsPermutation}
use Rattle.og_cond.specs.Condition.{Condition}
use Rattle.og_report_text.specs.Origins.{Rows}
use Rattle.og_report_prove.specs.Together.{repeats}
use Rattle.og_report_prove.specs.declared.diagnosis.Diagnosis.{Diagnosis}
use Rattle.og_report_runs.specs.declared.witness.Run.{Run}
use Rattle.og_report_findings.specs.Causes.{keys_of, shown, groups}
use Rattle.og_report_findings.specs.Entries.{Entry, unproved_from}
use Rattle.og_report_findings.specs.Order.{in_order, StandsBefore}
use Rattle.og_report_findings.specs.Told.{heads, told, stands_for, AreBlocks, AreTold}
use Rattle.og_report_findings.proofs.Blocks.{ordered_shown, ordered_heads, told_once}
use Rattle.og_report_findings.proofs.Counts.{shown_counted, are_counted}
use Rattle.og_report_findings.proofs.Ordered.{Ordered, all_pairs}
use Rattle.og_report_findings.proofs.Sorted.{ordered_unproved, is_in_order}

module _ (names : List (List ℕ)) (source : List ℕ) (rows : Rows) where
  are_blocks : (es : List Entry) → Ordered StandsBefore es → AreBlocks rows es (groups names source rows (shown rows es))
  are_blocks es h =
      let items = shown rows es in
      let once = told_once names source rows items [] in
      record {
        once = once;
        before = all_pairs StandsBefore (heads (groups names source rows items)) (ordered_heads names source rows items [] (ordered_shown es (repeats (keys_of rows es)) h));
        counted = sum_by-IsPermutation stands_for items (told (groups names source rows items)) once ∙ shown_counted rows es;
      }

  pub are_told : (cs : List Condition) (ts : List Diagnosis) (rs : List Run) → length ts ≡ length cs → length rs ≡ length cs → AreTold names source rows cs ts rs
  are_told cs ts rs each run = record {
    count = are_counted cs ts rs each run;
    order = is_in_order cs ts rs;
    blocks = are_blocks (in_order (unproved_from 1 cs ts rs)) (ordered_unproved cs ts rs);
  }

pub ordered_few : (cs : List Condition) (ts : List Diagnosis) (rs : List Run) → length ts ≡ length cs → length rs ≡ length cs → length (in_order (unproved_from 1 cs ts rs)) ≤ length ts
ordered_few cs ts rs each run =
    let counted = are_counted cs ts rs each run in
    let all = counted.all in
    let unproved = counted.unproved in
    let same = length_permutation (unproved_from 1 cs ts rs) (in_order (unproved_from 1 cs ts rs)) (is_in_order cs ts rs).same in
    omega (arith, all, unproved, same)
