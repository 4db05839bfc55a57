use Rattle.std.proofs.Common.{List}
use Rattle.og_cert_text.specs.Shown.{shown}
use Rattle.og_find.specs.declared.verdict.Verdict.{Verdict}
use Rattle.og_find_all.specs.Filing.{AreFiled}
use Rattle.og_find_all.proofs.filing.Filing.file_all_shared.Given as goal

abbrev pub invariant-loop-index : goal.invariant-loop-index
invariant-loop-index l = (vs : List Verdict) → AreFiled l.self.own.now l.self.places.now vs (shown l.initial.file) → AreFiled l.self.own.now l.self.places.now vs (shown l.file)
