-- A header line by line.
use Rattle.std.proofs.Common.{◌≡◌, ℕ, suc, ◌+◌, ◌-◌, ◌<◌, ◌≤◌, Bool, true, false, cond, List, Option, arith, ap, ◌∙◌}
use Rattle.std.specs.Option.{option_or}
use Rattle.og_lsp_frame.specs.declared.fault.FrameFault.TheVariants.{LineTooLong, TooManyLines}
use Rattle.og_lsp_frame.specs.Front.{FirstLine, NoEnd, Long, Line, Header, Unfinished, Wrong, Whole, first_line, is_blank, length_told, behind_line, header_from}

-- what a line leads to
abbrev pub led_to : ℕ → Option ℕ → List ℕ → List ℕ → Header
led_to lines told line rest = cond (is_blank line) (Whole told rest) (header_from lines (option_or told (length_told line)) rest)

-- by what the first line is
pub header_by : (lines : ℕ) (told : Option ℕ) (stream : List ℕ) (first : FirstLine) → first_line stream ≡ first → header_from (suc lines) told stream ≡ behind_line (led_to lines told) first
header_by lines told stream first e = ap (behind_line (led_to lines told)) e

left : (lines counter : ℕ) (told : Option ℕ) (stream : List ℕ) → counter < lines → header_from (lines - counter) told stream ≡ header_from (suc (lines - (counter + 1))) told stream
left lines counter told stream lt =
    let e : lines - counter ≡ suc (lines - (counter + 1)) = omega arith in
    ap (λ (n : ℕ). header_from n told stream) e

-- a field's line
pub header_more : (lines counter : ℕ) (told : Option ℕ) (stream line rest : List ℕ) → counter < lines → first_line stream ≡ Line line rest → is_blank line ≡ false
    → header_from (lines - counter) told stream ≡ header_from (lines - (counter + 1)) (option_or told (length_told line)) rest
header_more lines counter told stream line rest lt e some =
    left lines counter told stream lt ∙ header_by (lines - (counter + 1)) told stream (Line line rest) e
    ∙ ap (λ (b : Bool). cond b (Whole told rest) (header_from (lines - (counter + 1)) (option_or told (length_told line)) rest)) some

-- the blank line
pub header_whole : (lines counter : ℕ) (told : Option ℕ) (stream line rest : List ℕ) → counter < lines → first_line stream ≡ Line line rest → is_blank line ≡ true
    → header_from (lines - counter) told stream ≡ Whole told rest
header_whole lines counter told stream line rest lt e blank =
    left lines counter told stream lt ∙ header_by (lines - (counter + 1)) told stream (Line line rest) e
    ∙ ap (λ (b : Bool). cond b (Whole told rest) (header_from (lines - (counter + 1)) (option_or told (length_told line)) rest)) blank

-- no whole line
pub header_unfinished : (lines counter : ℕ) (told : Option ℕ) (stream : List ℕ) → counter < lines → first_line stream ≡ NoEnd → header_from (lines - counter) told stream ≡ Unfinished
header_unfinished lines counter told stream lt e = left lines counter told stream lt ∙ header_by (lines - (counter + 1)) told stream NoEnd e

-- a long line
pub header_long : (lines counter : ℕ) (told : Option ℕ) (stream : List ℕ) → counter < lines → first_line stream ≡ Long → header_from (lines - counter) told stream ≡ Wrong LineTooLong
header_long lines counter told stream lt e = left lines counter told stream lt ∙ header_by (lines - (counter + 1)) told stream Long e

-- too many lines
pub header_over : (lines counter : ℕ) (told : Option ℕ) (stream : List ℕ) → lines ≤ counter → header_from (lines - counter) told stream ≡ Wrong TooManyLines
header_over lines counter told stream le =
    let e : lines - counter ≡ 0 = omega arith in
    ap (λ (n : ℕ). header_from n told stream) e
