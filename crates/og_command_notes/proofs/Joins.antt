-- Texts that tests choose.
use Rattle.std.proofs.Common.{◌≡◌, ◌++◌, ℕ, Bool, true, false, List, sym}
use Rattle.std.specs.Prelude.{Result, OnOk, if◌then◌else◌}
use Rattle.std.proofs.lemmas.Bool.{true≢false}

-- a text that a test chooses
pub chosen : {X E : Type 0} (r : Result X E) (test : Bool) (old new first second : List ℕ) → test ≡ true → OnOk r (new ≡ old ++ first) → OnOk r (new ≡ old ++ (if test then first else second))
chosen r true old new first second e h = h
chosen r false old new first second e h = absurd (true≢false (sym e))

pub not_chosen : {X E : Type 0} (r : Result X E) (test : Bool) (old new first second : List ℕ) → test ≡ false → OnOk r (new ≡ old ++ second) → OnOk r (new ≡ old ++ (if test then first else second))
not_chosen r true old new first second e h = absurd (true≢false e)
not_chosen r false old new first second e h = h
