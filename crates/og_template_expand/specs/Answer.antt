-- What a part of a template is: a value, or a fault.
use Rattle.std.specs.Prelude.{List, [], ◌∷◌, ◌++◌, Result, Ok, Err}
use Rattle.og_template.specs.declared.fault.FaultKind.{FaultKind}
use Rattle.og_template.specs.declared.fault.TemplateFault.{TemplateFault}
use Rattle.og_text.specs.declared.place.Span.{Span}

-- a value, or the first fault in the order of the evaluation
abbrev pub Checked : Type 0 → Type 0
Checked X = Result X TemplateFault

infixl 10 ◌>>=◌
abbrev pub ◌>>=◌ : {A B : Type 0} → Checked A → (A → Checked B) → Checked B
(Ok x) >>= next = next x
(Err fault) >>= next = Err fault

abbrev pub refused : {X : Type 0} → FaultKind → Span → Checked X
refused kind place = Err (record { kind = kind; at = place.start })

-- each in turn; what they give, one after the other
abbrev pub gathered : {X Y : Type 0} → (X → Checked (List Y)) → List X → Checked (List Y)
gathered each [] = Ok []
gathered each (x ∷ xs) = each x >>= λ ys. gathered each xs >>= λ zs. Ok (ys ++ zs)

-- values after others
abbrev pub behind : {Y : Type 0} → List Y → Checked (List Y) → Checked (List Y)
behind ys answer = answer >>= λ zs. Ok (ys ++ zs)
