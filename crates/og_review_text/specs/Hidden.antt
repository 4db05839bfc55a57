-- Characters that may hide text from a reader.
use Rattle.std.specs.Prelude.{ℕ, ◌+◌, ◌/◌, ◌%◌, List, [], ◌∷◌, ◌++◌, flat_map, Bool, true, false, not, ◌==◌, ◌&&◌, ◌||◌, nat_lt, nat_le, if◌then◌else◌, Option, Some, None, get_or, codes}
use Rattle.og_report_text.specs.Places.{◌&◌, position_of, position_text}
use Rattle.og_review_text.specs.declared.hidden.Hidden.{Hidden}
use Rattle.og_review_text.specs.declared.hidden.Inside.{Inside}
use Rattle.og_review_text.specs.declared.hidden.Inside.TheVariants as inside

abbrev pub byte : List ℕ → ℕ → ℕ
byte text i = get_or text i 0

-- ---- one character

-- a control character of ASCII but TAB, LF, and a CR with an LF behind it
abbrev pub is_control : ℕ → ℕ → Bool
is_control b next = (nat_lt b 32 && not ((b == 9 || b == 10) || (b == 13 && next == 10))) || b == 127

-- the UTF-8 of U+0080 to U+009F
abbrev pub is_late_control : ℕ → ℕ → Bool
is_late_control b next = b == 194 && (nat_le 128 next && nat_lt next 160)

-- the UTF-8 of U+202A to U+202E, which turn the direction of text
abbrev pub is_embedding : ℕ → ℕ → ℕ → Bool
is_embedding b next last = b == 226 && (next == 128 && (nat_le 170 last && nat_le last 174))

-- the UTF-8 of U+2066 to U+2069, which do so too
abbrev pub is_isolate : ℕ → ℕ → ℕ → Bool
is_isolate b next last = b == 226 && (next == 129 && (nat_le 166 last && nat_le last 169))

-- the number of such a character that these three bytes begin with: U+202A is 8064 + 170, U+2066 is 8128 + 166
abbrev pub hidden_by : ℕ → ℕ → ℕ → Option ℕ
hidden_by b next last =
    if is_control b next then Some b
    else if is_late_control b next then Some next
    else if is_embedding b next last then Some (8064 + last)
    else if is_isolate b next last then Some (8128 + last)
    else None

-- and that a text begins with
abbrev pub hidden_in : List ℕ → Option ℕ
hidden_in text = hidden_by (byte text 0) (byte text 1) (byte text 2)

-- ---- comments

-- where a reader is behind a byte: `#` begins a comment, which LF ends; one line is told of each
abbrev pub inside_after : Inside → ℕ → ℕ → Option ℕ → Inside
inside_after inside.Code at b hidden = if b == 35 then inside.Comment at else inside.Code
inside_after (inside.Comment start) at b None = if b == 10 then inside.Code else inside.Comment start
inside_after (inside.Comment start) at b (Some c) = inside.Told
inside_after inside.Told at b hidden = if b == 10 then inside.Code else inside.Told

-- ---- the characters that are told

-- at a place: in a comment its first one alone, with the place of the comment
abbrev pub told : Inside → ℕ → Option ℕ → List Hidden
told reader at None = []
told inside.Code at (Some c) = record { in_comment = false; at = at; number = c } ∷ []
told (inside.Comment start) at (Some c) = record { in_comment = true; at = start; number = c } ∷ []
told inside.Told at (Some c) = []

-- in the bytes from a place on
abbrev pub told_from : Inside → ℕ → List ℕ → List Hidden
told_from reader at [] = []
told_from reader at (b ∷ rest) =
    told reader at (hidden_in (b ∷ rest)) ++ told_from (inside_after reader at b (hidden_in (b ∷ rest))) (at + 1) rest

abbrev pub hidden_characters : List ℕ → List Hidden
hidden_characters source = told_from inside.Code 0 source

-- ---- the lines

abbrev pub digit : ℕ → ℕ
digit d = if nat_lt d 10 then 48 + d else 55 + d

-- U+ and four hexadecimal digits
abbrev pub character_text : ℕ → List ℕ
character_text c = codes "U+" & (digit (c / 4096 % 16) ∷ digit (c / 256 % 16) ∷ digit (c / 16 % 16) ∷ digit (c % 16) ∷ [])

abbrev pub word_of : Bool → List ℕ
word_of in_comment = if in_comment then codes "comment" else codes "text"

abbrev pub finding_text : ℕ → List ℕ
finding_text c = codes " holds " & character_text c & codes ", which may hide text"

-- without its place
abbrev pub message : Hidden → List ℕ
message h = word_of h.in_comment & finding_text h.number

abbrev pub hidden_line : List ℕ → Hidden → List ℕ
hidden_line source h = word_of h.in_comment & codes " at " & position_text (position_of source h.at) & finding_text h.number & codes "\n"

abbrev pub hidden_lines : List ℕ → List ℕ
hidden_lines source = flat_map (hidden_line source) (hidden_characters source)
