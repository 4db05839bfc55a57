-- What stands at the front of a stream: a header that tells how long the body is, and the body.
use Rattle.std.specs.Prelude.{◌≡◌, ℕ, zero, suc, ◌+◌, ◌^◌, Bool, true, false, ◌==◌, ◌&&◌, ◌||◌, not, nat_lt, min, List, [], ◌∷◌, ◌++◌, length, take, drop, map, codes, slice_index, Option, Some, None, if◌then◌else◌}
use Rattle.std.specs.List.{prefix_len, flat_map, AllByRecursion}
use Rattle.std.specs.Option.{option_or}
use Rattle.std.specs.Char.{to_ascii_lowercase}
use Rattle.std.specs.Fmt.{decimal}
use Rattle.std.specs.Str.{bytes_eq}
use Rattle.og_text.specs.Lexemes.{is_digit, value_of}
use Rattle.og_lsp_frame.specs.declared.fault.FrameFault.{FrameFault}
use Rattle.og_lsp_frame.specs.declared.fault.FrameFault.TheVariants.{LineTooLong, TooManyLines, NoLength, BodyTooLong}

-- ---- a line

-- any byte but LF
abbrev pub in_line : ℕ → Bool
in_line byte = not (byte == 10)

-- any byte but a colon
abbrev pub in_name : ℕ → Bool
in_name byte = not (byte == 58)

-- a blank, a tab or a CR
abbrev pub is_space : ℕ → Bool
is_space byte = (byte == 32) || (byte == 9) || (byte == 13)

-- nothing, or a CR: the line behind the last field
abbrev pub is_blank : List ℕ → Bool
is_blank line = length line == 0 || (length line == 1 && slice_index line 0 == 13)

-- `Content-Length`, in small letters and capitals
abbrev pub names_length : List ℕ → Bool
names_length name = bytes_eq (map to_ascii_lowercase name) (codes "content-length")

-- the number that digits write; one above the limit stands for all of these
abbrev pub number_of : List ℕ → ℕ
number_of digits = min (value_of digits) (2 ^ 24 + 1)

-- without the blanks, tabs and CRs at the front
abbrev pub trimmed : List ℕ → List ℕ
trimmed bytes = drop (prefix_len is_space bytes) bytes

-- a digit or more, with blanks, tabs and CRs around them, tell a length
abbrev pub length_of : List ℕ → Option ℕ
length_of value =
    let text = trimmed value in
    let len = prefix_len is_digit text in
    if len == 0 || not (length (trimmed (drop len text)) == 0) then None else Some (number_of (take len text))

-- a line of that name tells a length behind its colon
abbrev pub length_told : List ℕ → Option ℕ
length_told line =
    let len = prefix_len in_name line in
    if len == length line || not (names_length (take len line)) then None else length_of (drop (len + 1) line)

-- ---- a header

-- the line at the front without its LF, and what comes behind it
pub data FirstLine : Type 0 where
  NoEnd : FirstLine
  Long : FirstLine
  Line : (line rest : List ℕ) → FirstLine

abbrev pub first_line : List ℕ → FirstLine
first_line stream =
    let len = prefix_len in_line stream in
    if nat_lt 4096 len then Long else if len == length stream then NoEnd else Line (take len stream) (drop (len + 1) stream)

-- the header at the front: whole, with what it tells of the length and what comes behind it
pub data Header : Type 0 where
  Unfinished : Header
  Wrong : FrameFault → Header
  Whole : (told : Option ℕ) (rest : List ℕ) → Header

-- the first line, where it has come whole, and what comes behind it
abbrev pub behind_line : (List ℕ → List ℕ → Header) → FirstLine → Header
behind_line goes_on NoEnd = Unfinished
behind_line goes_on Long = Wrong LineTooLong
behind_line goes_on (Line line rest) = goes_on line rest

-- so many lines at most, behind lines that told so much: the first field that tells a length counts
abbrev pub header_from : ℕ → Option ℕ → List ℕ → Header
header_from zero told stream = Wrong TooManyLines
header_from (suc lines) told stream =
    behind_line (λ line rest. if is_blank line then Whole told rest else header_from lines (option_or told (length_told line)) rest) (first_line stream)

-- ---- a message

-- what stands at the front of a stream: less than a message, a message with what comes behind it, or a header that is wrong
pub data Front : Type 0 where
  Partial : Front
  Message : (body rest : List ℕ) → Front
  Faulty : FrameFault → Front

-- the body of this length at the front
abbrev pub body_at : ℕ → List ℕ → Front
body_at len stream = (if nat_lt (length stream) len then Partial else Message (take len stream) (drop len stream))

abbrev pub body_told : Option ℕ → List ℕ → Front
body_told None stream = Faulty NoLength
body_told (Some len) stream = (if nat_lt (2 ^ 24) len then Faulty BodyTooLong else body_at len stream)

abbrev pub behind_header : Header → Front
behind_header Unfinished = Partial
behind_header (Wrong fault) = Faulty fault
behind_header (Whole told rest) = body_told told rest

-- what stands at the front, where a header has so many lines at most
unfoldable pub front_within : ℕ → List ℕ → Front
front_within lines stream = behind_header (header_from lines None stream)

-- a header has 16 lines at most, a line 4,096 bytes, a body 16,777,216
unfoldable pub front : List ℕ → Front
front stream = front_within 16 stream

-- ---- in words of the protocol

-- a line and its LF
abbrev pub ended : List ℕ → List ℕ
ended line = line ++ 10 ∷ []

-- a field's line: without LF, and not blank
pub record IsField (line : List ℕ) : Type 0 where
  pub one_line : prefix_len in_line line ≡ length line
  pub some : is_blank line ≡ false

-- what the first of the lines tells that tells a length
abbrev pub first_told : List (List ℕ) → Option ℕ
first_told [] = None
first_told (line ∷ lines) = option_or (length_told line) (first_told lines)

-- fields, a blank line, and then just the bytes that they count; the rest stays
pub record IsMessage (stream body rest : List ℕ) : Type 0 where
  pub fields : List (List ℕ)
  pub blank : List ℕ
  pub parts : stream ≡ flat_map ended fields ++ ended blank ++ body ++ rest
  pub are_fields : AllByRecursion IsField fields
  pub is_end : is_blank blank ≡ true
  pub counted : first_told fields ≡ Some (length body)

-- how a message is written
abbrev pub message_text : List ℕ → List ℕ
message_text body = codes "Content-Length: " ++ decimal (length body) ++ codes "\r\n\r\n" ++ body
