-- Where the parts of a source end.
use Rattle.std.specs.Prelude.{ℕ, ◌+◌, ◌==◌, List, [], ◌∷◌, drop, slice_get, Bool, true, false, not, ◌&&◌, ◌||◌, if◌then◌else◌, Option, Some, None}

-- whether a comment goes on behind this byte: it begins with # and ends with the line
abbrev pub in_comment : Bool → ℕ → Bool
in_comment true b = not (b == 10)
in_comment false b = b == 35

abbrev pub is_blank : ℕ → Bool
is_blank b = (b == 32) || (b == 9) || (b == 13) || (b == 10)

-- whether the byte is part of a token
abbrev pub is_solid : Bool → ℕ → Bool
is_solid comment b = not comment && not (b == 35) && not (is_blank b)

-- behind the first } in no comment, where these bytes stand at n
abbrev pub note_end : Bool → ℕ → List ℕ → ℕ
note_end comment n [] = n
note_end comment n (b ∷ bs) =
    if not comment && (b == 125) then n + 1 else note_end (in_comment comment b) (n + 1) bs

-- behind the last token before the first { in no comment; `end` is that of the tokens before
abbrev pub statement_end : Bool → ℕ → ℕ → List ℕ → ℕ
statement_end comment end n [] = end
statement_end comment end n (b ∷ bs) =
    if not comment && (b == 123) then end
    else statement_end (in_comment comment b) (if is_solid comment b then n + 1 else end) (n + 1) bs

abbrev pub end_by : Option ℕ → ℕ → List ℕ → ℕ
end_by None at bs = at
end_by (Some b) at bs = if b == 123 then note_end false at bs else statement_end false at at bs

-- of the part that begins at this byte offset
abbrev pub end_of : List ℕ → ℕ → ℕ
end_of source at = end_by (slice_get source at) at (drop at source)
