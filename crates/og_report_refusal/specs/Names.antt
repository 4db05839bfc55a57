-- How messages show the names of files, and words.
use Rattle.std.specs.Prelude.{ℕ, ◌+◌, ◌/◌, ◌%◌, nat_le, nat_lt, Bool, ◌&&◌, ◌||◌, ◌==◌, true, false, List, [], ◌∷◌, ◌++◌, if◌then◌else◌, codes}
use Rattle.std.specs.List.{list_all}
use Rattle.og_report_text.specs.Places.{◌&◌}

-- a control character of one byte
abbrev pub is_control : ℕ → Bool
is_control b = nat_lt b 32 || b == 127

-- the first byte of the characters U+0080 to U+00BF, of which those below U+00A0 are control characters
abbrev pub latin : ℕ
latin = 194

abbrev pub hex_digit : ℕ → ℕ
hex_digit n = if nat_lt n 10 then 48 + n else 87 + n

abbrev pub hex_text : ℕ → List ℕ
hex_text n = if nat_lt n 16 then hex_digit n ∷ [] else hex_digit (n / 16) ∷ hex_digit (n % 16) ∷ []

-- \u{1b}
abbrev pub escape_text : ℕ → List ℕ
escape_text c = codes "\\u{" & hex_text c & codes "}"

-- the last of two bytes
abbrev pub shown_second : ℕ → List ℕ
shown_second b = if nat_le 128 b && nat_lt b 160 then escape_text b else latin ∷ b ∷ []

-- a byte that is a character, or begins or goes on with a longer one; a quotation mark between such marks is written as a shell takes it
abbrev pub shown_first : Bool → ℕ → List ℕ
shown_first quoted b =
    if b == latin then [] else (if is_control b then escape_text b else (if quoted && b == 39 then codes "'\\''" else b ∷ []))

-- a byte by whether the one before is `latin`
abbrev pub shown_byte : Bool → Bool → ℕ → List ℕ
shown_byte quoted half b = if half then shown_second b else shown_first quoted b

abbrev pub shown_from : Bool → Bool → List ℕ → List ℕ
shown_from quoted half [] = []
shown_from quoted half (b ∷ rest) = shown_byte quoted half b ++ shown_from quoted (b == latin) rest

-- with its control characters escaped
abbrev pub shown_name : List ℕ → List ℕ
shown_name name = shown_from false false name

-- a letter or digit of ASCII, or one of `%+,-./:=@_`, which mean themselves to a shell
abbrev pub is_plain_byte : ℕ → Bool
is_plain_byte b =
    (nat_le 97 b && nat_le b 122) || (nat_le 65 b && nat_le b 90) || (nat_le 43 b && nat_le b 58) || b == 61 || b == 64 || b == 95 || b == 37

abbrev pub plain_command : List ℕ → List ℕ → List ℕ
plain_command command name = codes "'" & command & name & codes "'"

abbrev pub quoted_command : List ℕ → List ℕ → List ℕ
quoted_command command name = codes "\"" & command & codes "'" & shown_from true false name & codes "'\""

-- in quotes, as a shell takes the name
abbrev pub command_text : List ℕ → List ℕ → List ℕ
command_text command name = if list_all is_plain_byte name then plain_command command name else quoted_command command name
