-- A report that says that the outline is unblocked.
use Rattle.std.specs.Prelude.{◌≡◌, ℕ, Bool, true, false, List, ◌++◌, codes}

abbrev pub EndsWith : List ℕ → List ℕ → Type 0
EndsWith end text = (front : List ℕ) × (text ≡ front ++ end)

-- as JSON by its last members, as text by its last line
abbrev pub SaysUnblocked : Bool → List ℕ → Type 0
SaysUnblocked true text = EndsWith (codes "\"unblocked\":true,\"unproved\":[]}\n") text
SaysUnblocked false text = EndsWith (codes "unblocked: yes\n") text
