-- What a function returned, seen by view, and the tokens that it left are what reading gives, unless memory ran out.
use Rattle.std.specs.Prelude.{◌≡◌, List, Result, Ok, Err}
use Rattle.og_text.specs.declared.token.Token.{Token}
use Rattle.og_parse.specs.declared.refusal.Refusal.{Refusal}
use Rattle.og_parse.specs.declared.refusal.Refusal.TheVariants as refusals
use Rattle.og_parse.specs.Reading.{Outcome}

-- the fault is the one that reading gives, at these tokens, unless memory ran out
abbrev pub Fails : {Y : Type 0} → Refusal → List Token → Outcome Y → Type 0
Fails refusals.Memory left outcome = Unit {0}
Fails (refusals.Fault kind) left outcome = outcome ≡ Err (kind, left)

abbrev pub IsRead : {X Y : Type 0} → (X → Y) → Result X Refusal → List Token → Outcome Y → Type 0
IsRead view (Ok x) left outcome = outcome ≡ Ok (view x, left)
IsRead view (Err e) left outcome = Fails e left outcome

-- P, where memory ran out
abbrev pub OnMemory : {X : Type 0} → Result X Refusal → Type 0 → Type 0
OnMemory (Ok x) P = Unit {0}
OnMemory (Err refusals.Memory) P = P
OnMemory (Err (refusals.Fault kind)) P = Unit {0}
