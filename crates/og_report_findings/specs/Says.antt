-- A report whose verdict is that no run gets stuck.
use Rattle.std.specs.Prelude.{ℕ, Bool, true, false, List, codes}
use Rattle.og_report_text.specs.Yes.{EndsWith}

-- as JSON by its last member, as text by its last line
abbrev pub SaysNeverStuck : Bool → List ℕ → Type 0
SaysNeverStuck true text = EndsWith (codes "\"verdict\":\"safe in every run, and never stuck\"}\n") text
SaysNeverStuck false text = EndsWith (codes "verdict: safe in every run, and never stuck\n") text
