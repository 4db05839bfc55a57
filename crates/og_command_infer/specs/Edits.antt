-- Edits that lie in notes.
use Rattle.std.specs.Prelude.{◌≡◌, ◌≢◌, ◌<◌, ◌≤◌, ℕ, List, Some, All, slice_get, slice_range}
use Rattle.og_infer_marks.specs.declared.edit.Edit.{Edit}

-- a `{` stands before these bytes, and no `}` between that and their end
abbrev pub AreInBraces : List ℕ → ℕ → ℕ → Type 0
AreInBraces text at end =
    (brace : ℕ) × (brace < at) × (at ≤ end) × (slice_get text brace ≡ Some 123)
    × All (λ byte. byte ≢ 125) (slice_range text brace end)

abbrev pub IsInBraces : List ℕ → Edit → Type 0
IsInBraces text edit = AreInBraces text edit.at edit.end
