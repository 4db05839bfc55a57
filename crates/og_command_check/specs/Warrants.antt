-- What a text and its status say of a source.
use Rattle.std.specs.Prelude.{◌≡◌, ℕ, Bool, List}
use Rattle.og_judge.specs.Proven.{IsProvenSource}
use Rattle.og_judge.specs.NeverStuck.{IsNeverStuckSource}
use Rattle.og_report_text.specs.Yes.{SaysUnblocked}

-- status 0 says that it is proven, and a text that says then that it is unblocked, that it never
-- gets stuck
abbrev pub Warrants : Bool → List ℕ → List ℕ → ℕ → Type 0
Warrants json source text status =
    (status ≡ 0 → IsProvenSource source)
    × (status ≡ 0 → SaysUnblocked json text → IsNeverStuckSource source)
