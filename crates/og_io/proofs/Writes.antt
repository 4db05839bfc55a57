-- Single writes that come to nothing.
use Rattle.std.proofs.Common.{◌≡◌, ℕ, List, [], ◌++◌, take, Option, None, Some, ◌∙◌, sym, ap, append-nil}
use Rattle.std.specs.Io.KnownBytes.{Appends, Keeps}

pub appends_none : (a b : Option (List ℕ)) → Keeps a b → Appends a b []
appends_none None b k = tt
appends_none (Some x) None k = absurd k
appends_none (Some x) (Some y) k = k ∙ sym (append-nil x)

pub keeps_none : (a b : Option (List ℕ)) (text : List ℕ) (n : ℕ) → n ≡ 0 → Appends a b (take n text) → Keeps a b
keeps_none None b text n e k = tt
keeps_none (Some x) None text n e k = absurd k
keeps_none (Some x) (Some y) text n e k = k ∙ ap (λ (m : ℕ). x ++ take m text) e ∙ append-nil x
