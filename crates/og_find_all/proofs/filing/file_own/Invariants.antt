use Rattle.std.proofs.Common.{◌≡◌, ℕ, List, Option, Some, vec_len}
use Rattle.std.specs.Prelude.{slice_get}
use Rattle.std.specs.Global.{Box}
use Rattle.og_cert_text.specs.Shown.{shown}
use Rattle.og_find.specs.declared.verdict.Verdict.{Verdict}
use Rattle.og_find_all.specs.Filing.{AreFiled}
use Rattle.og_find_all.proofs.filing.file_own.Given as goal

abbrev pub invariant-loop-last : goal.invariant-loop-last
invariant-loop-last l = record {
  rest : (i : ℕ) (v : Option (Box Verdict)) → slice_get l.own.items i ≡ Some v → slice_get l.fn.own.items i ≡ Some v;
  filed : (places : List ℕ) (vs : List Verdict) → AreFiled l.fn.own.items places vs (shown l.initial.file) → AreFiled l.fn.own.items places vs (shown l.file);
}

abbrev pub decreases-loop-last : goal.decreases-loop-last
decreases-loop-last l = vec_len l.own
