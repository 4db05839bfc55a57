-- A text with edits.
use Rattle.std.specs.Prelude.{ℕ, List, [], ◌∷◌, ◌++◌, drop, slice_range}
use Rattle.og_infer_marks.specs.declared.edit.Edit.{Edit}

-- what follows a place of a text, with these edits of it made
abbrev pub edited : List Edit → ℕ → List ℕ → List ℕ
edited [] from text = drop from text
edited (edit ∷ rest) from text =
    slice_range text from edit.at ++ edit.text.items ++ edited rest edit.end text
