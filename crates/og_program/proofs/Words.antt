-- Why a word of a run is refused.
use Rattle.std.proofs.Common.{◌≡◌, inl, inr, ℕ, List, Option, Some, None, Vec}
use Rattle.std.specs.Prelude.{IfSome}
use Rattle.std.specs.Global.{Global}
use Rattle.og_typed.specs.Syntax.{Program}
use Rattle.og_report_refusal.specs.Values.{schedule_text, reason_line, IsValueRemark}
use Rattle.og_report_refusal.specs.declared.values.Gives.TheVariants as gives
use Rattle.og_program.specs.Commands.{IsWordRemark}
use denote.Ref.{Bor}

-- it gives no value
pub of_value : (o : Program) (word : List ℕ) (schedule : Option (Bor (List ℕ))) (why : Option (Vec ℕ Global)) → IfSome why (λ line. IsValueRemark gives.Values o word line.items)
    → IfSome why (λ line. IsWordRemark o schedule word line.items)
of_value o word None None h = tt
of_value o word None (Some line) h = h
of_value o word (Some schedule) None h = tt
of_value o word (Some schedule) (Some line) h = inl h

-- it is the schedule
pub of_schedule : (o : Program) (word : List ℕ) (schedule : Bor (List ℕ)) (why : Option (Vec ℕ Global)) → word ≡ schedule.now → IfSome why (λ line. line.items ≡ reason_line schedule_text)
    → IfSome why (λ line. IsWordRemark o (Some schedule) word line.items)
of_schedule o word schedule None same h = tt
of_schedule o word schedule (Some line) same h = inr (same, h)
