-- The heading above the blocks, and the numbers of the conditions that are not proved.
use Rattle.std.specs.Prelude.{ℕ, ◌+◌, List, [], ◌∷◌, ◌&&◌, if◌then◌else◌, codes}
use Rattle.std.specs.List.{list_any}
use Rattle.std.specs.Fmt.{decimal}
use Rattle.og_report_text.specs.Places.{◌&◌}
use Rattle.og_report_prove.specs.Report.{is_safe, is_unblocked}
use Rattle.og_report_prove.specs.declared.diagnosis.Diagnosis.{Diagnosis}
use Rattle.og_report_html.specs.Findings.{is_found, word, sign}
use Rattle.og_report_html.specs.declared.constants.TheConstants.{ALL_PROVED, BEFORE_BLOCKS}
use Rattle.og_report_html.specs.declared.finding.Finding.{Finding}
use Rattle.og_report_html.specs.declared.finding.Finding.TheVariants as finding

-- a link to the block of a condition
abbrev pub number_link : ℕ → List ℕ
number_link n = codes " <a href=#c" & decimal n & codes ">" & decimal n & codes "</a>"

-- where this is the finding on it
abbrev pub number_where : Finding → ℕ → Diagnosis → List ℕ
number_where f n t = if is_found f t then number_link n else []

-- numbered on
abbrev pub number_links : Finding → ℕ → List Diagnosis → List ℕ
number_links f n [] = []
number_links f n (t ∷ ts) = number_where f n t & number_links f (n + 1) ts

-- the sign and the word before them
abbrev pub numbers_line : Finding → List Diagnosis → List ℕ
numbers_line f ts = codes "<p>" & sign f & codes " " & word f & codes ":" & number_links f 1 ts & codes "</p>\n"

-- nothing where this is the finding on none
abbrev pub numbers_of : Finding → List Diagnosis → List ℕ
numbers_of f ts = if list_any (is_found f) ts then numbers_line f ts else []

abbrev pub numbers_text : List Diagnosis → List ℕ
numbers_text ts = numbers_of finding.False ts & numbers_of finding.Open ts

-- what stands above the blocks, or in place of them
abbrev pub heading_text : List Diagnosis → List ℕ
heading_text ts = if is_safe ts && is_unblocked ts then ALL_PROVED.now else BEFORE_BLOCKS.now
