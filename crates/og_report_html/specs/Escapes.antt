-- How bytes are written within HTML.
use Rattle.std.specs.Prelude.{ℕ, nat_lt, List, [], ◌∷◌, Bool, ◌==◌, ◌||◌, ◌&&◌, if◌then◌else◌, codes}
use Rattle.og_report_text.specs.Places.{◌&◌}

-- a tab, a line feed, what ASCII prints, and in a text that is UTF-8 whatever is beyond ASCII
abbrev pub is_printed : Bool → ℕ → Bool
is_printed utf8 b = b == 9 || (b == 10 || (nat_lt 31 b && nat_lt b 127 || utf8 && nat_lt 127 b))

-- a carriage return is a blank, any other byte that is not printed a question mark
abbrev pub plain_byte : Bool → ℕ → List ℕ
plain_byte utf8 b = if is_printed utf8 b then b ∷ [] else (if b == 13 then codes " " else codes "?")

-- & < > "
abbrev pub escaped : Bool → ℕ → List ℕ
escaped utf8 b =
    if b == 38 then codes "&amp;"
    else (if b == 60 then codes "&lt;"
    else (if b == 62 then codes "&gt;"
    else (if b == 34 then codes "&quot;"
    else plain_byte utf8 b)))

abbrev pub escaped_text : Bool → List ℕ → List ℕ
escaped_text utf8 [] = []
escaped_text utf8 (b ∷ bs) = escaped utf8 b & escaped_text utf8 bs
