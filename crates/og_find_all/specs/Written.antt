-- The promise of the certificates that are found.
use Rattle.std.specs.Prelude.{◌≡◌, ◌<◌, ◌≤◌, ℕ, List, length, true}
use Rattle.og_cert_text.specs.Files.{Entries}
use Rattle.og_cert_text.specs.Listing.{file_text}
use Rattle.og_cert_text.specs.Rising.{is_file}
use Rattle.og_cert_text.specs.Shown.{shown}
use Rattle.og_cond.specs.Condition.{Condition}
use Rattle.og_find.specs.Found.{AreOf}
use Rattle.og_find.specs.Missing.{missing_up_to}
use Rattle.og_find_all.specs.declared.writing.FoundText.{FoundText}
use Rattle.og_find_all.specs.declared.writing.FoundText.TheVariants as texts
use Rattle.og_find_all.specs.declared.writing.Written.{Written}

-- the text is that of a file of certificates of the conditions, and this many of the conditions have none in it
abbrev pub IsWritten : List Condition → Written → Type 0
IsWritten cs w =
    (es : Entries) × AreOf cs es × (is_file es ≡ true) × (w.certificates ≡ file_text es)
    × (w.missing.count ≡ missing_up_to es (length cs)) × (w.missing.conditions ≡ length cs)

-- the text of certificates of the conditions is longer than the limit
abbrev pub IsTooLong : ℕ → List Condition → Type 0
IsTooLong limit cs = (es : Entries) × AreOf cs es × (limit < length (file_text es))

-- such a text, within the limit; or certificates of the conditions where it is longer
abbrev pub IsText : ℕ → List Condition → FoundText → Type 0
IsText limit cs (texts.Within w) = IsWritten cs w × (length w.certificates ≤ limit)
IsText limit cs (texts.TooLong file) = AreOf cs (shown file) × IsTooLong limit cs
