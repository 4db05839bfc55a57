-- A sentence begins with who makes the step exactly where nothing stands before that.
use Rattle.std.proofs.Common.{◌≡◌, length, refl}
use Rattle.std.specs.Prelude.{◌==◌}
use Rattle.og_cond.specs.declared.kind.Kind.{Kind}
use Rattle.og_cond.specs.declared.kind.Kind.TheVariants as kinds
use Rattle.og_report_prove.specs.Sentences.{begins, opening}

pub no_opening : (kind : Kind) → (length (opening kind) == 0) ≡ begins kind
no_opening kinds.Prologue = refl
no_opening kinds.Start = refl
no_opening kinds.Step = refl
no_opening kinds.Range = refl
no_opening kinds.Then = refl
no_opening kinds.Else = refl
no_opening kinds.Join = refl
no_opening kinds.Enter = refl
no_opening kinds.Again = refl
no_opening kinds.Leave = refl
no_opening kinds.Interfere = refl
no_opening kinds.End = refl
no_opening kinds.Epilogue = refl
no_opening kinds.Blocking = refl
