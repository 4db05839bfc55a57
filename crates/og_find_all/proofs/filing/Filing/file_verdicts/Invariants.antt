use Rattle.std.proofs.Common.{◌≡◌, ℕ, Some, vec_len}
use Rattle.std.specs.Prelude.{slice_get}
use Rattle.og_cert_text.specs.Shown.{shown}
use Rattle.og_find.specs.declared.verdict.Verdict.{Verdict}
use Rattle.og_find_all.specs.Filing.{AreFiled}
use Rattle.og_find_all.proofs.filing.Filing.file_verdicts.Given as goal

abbrev pub invariant-loop-verdict : goal.invariant-loop-verdict
invariant-loop-verdict l = record {
  rest : (i : ℕ) (v : Verdict) → slice_get l.verdicts.items i ≡ Some v → slice_get l.fn.verdicts.items i ≡ Some v;
  filed : AreFiled l.self.own.now l.self.places.now l.fn.verdicts.items (shown l.file);
}

abbrev pub decreases-loop-verdict : goal.decreases-loop-verdict
decreases-loop-verdict l = vec_len l.verdicts
