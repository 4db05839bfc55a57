-- The line of a hint.
use Rattle.std.proofs.Common.{◌≡◌, ◌++◌, ℕ, ℤ, List, Bool, true, cond, [], Option, Some, OnOk, Result, sym, subst}
use Rattle.og_typed.specs.Syntax.{Noted, Program}
use Rattle.og_report_findings.specs.Hints.{is_hint, hint_text, hint_line}

pub hinted : {X E : Type 0} (o : Program) (known : List Noted) (values : List ℤ) (x : ℕ) (ns : List ℤ) (at : Option (List ℤ)) (r : Result X E) (old new : List ℕ)
    → Some ns ≡ at → is_hint o known values x ns ≡ true → OnOk r (new ≡ old ++ hint_text o.names x ns) → OnOk r (new ≡ old ++ hint_line o known values x at)
hinted o known values x ns at r old new there is added =
    subst (λ n. OnOk r (new ≡ old ++ hint_line o known values x n)) there
    (subst (λ (b : Bool). OnOk r (new ≡ old ++ cond b (hint_text o.names x ns) [])) (sym is) added)
