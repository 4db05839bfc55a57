-- How many conditions have no certificate, as standard error says it.
use Rattle.std.specs.Prelude.{ℕ, List, Option, None, Some, codes}
use Rattle.std.specs.Fmt.{decimal}
use Rattle.og_report_text.specs.Places.{◌&◌}
use Rattle.og_report_refusal.specs.Names.{command_text}

-- MISSING of COUNT
abbrev pub counts_text : ℕ → ℕ → List ℕ
counts_text missing count = decimal missing & codes " of " & decimal count

abbrev pub missing_text : List ℕ → ℕ → ℕ → List ℕ
missing_text name missing count = codes "og: " & counts_text missing count & codes " conditions have no certificate; " & command_text (codes "og prove ") name & codes " says why\n"

-- how many bytes version 2 takes, if it may be written, or what does without certificates
abbrev pub length_text : List ℕ → Option ℕ → List ℕ
length_text name None = codes ": " & command_text (codes "og prove ") name & codes " judges without them\n"
length_text name (Some second) = codes ": --version 2 takes " & decimal second & codes "\n"

-- certificates take more bytes than the limit
abbrev pub long_text : List ℕ → ℕ → Option ℕ → List ℕ
long_text name limit second = codes "og: certificates of more than " & decimal limit & codes " bytes" & length_text name second
