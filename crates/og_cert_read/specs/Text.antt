-- The lines of a text, and what each says.
use Rattle.std.specs.Prelude.{◌≡◌, ℕ, List, [], ◌∷◌, true, ◌==◌, if◌then◌else◌, ⊤, Option, Some, None}
use Rattle.og_cert_text.specs.Lines.{Line, line_text, is_line}

-- the most bytes of a text
unfoldable pub most_text : ℕ
most_text = 67108864

abbrev pub with_byte : ℕ → List (Option (List ℕ)) → List (Option (List ℕ))
with_byte b [] = None ∷ []
with_byte b (None ∷ ps) = None ∷ ps
with_byte b (Some line ∷ ps) = Some (b ∷ line) ∷ ps

-- the bytes up to each LF; bytes with no LF after them are no line
abbrev pub pieces : List ℕ → List (Option (List ℕ))
pieces [] = []
pieces (b ∷ bs) = if b == 10 then Some [] ∷ pieces bs else with_byte b (pieces bs)

-- bytes say this line where they are the line as it is written, within its limits, and nothing where they are no such line
abbrev pub BytesSay : List ℕ → Option Line → Type 0
BytesSay bytes (Some line) = (bytes ≡ line_text line) × (is_line line ≡ true)
BytesSay bytes None = (line : Line) → bytes ≡ line_text line → is_line line ≡ true → ⊥

-- bytes without their LF say nothing
abbrev pub Says : Option (List ℕ) → Option Line → Type 0
Says None None = ⊤
Says None (Some line) = ⊥
Says (Some bytes) line = BytesSay bytes line

abbrev pub EachSays : List (Option (List ℕ)) → List (Option Line) → Type 0
EachSays [] [] = ⊤
EachSays [] (l ∷ ls) = ⊥
EachSays (p ∷ ps) [] = ⊥
EachSays (p ∷ ps) (l ∷ ls) = Says p l × EachSays ps ls
