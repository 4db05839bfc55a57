-- The end of a text that is tested byte by byte.
use Rattle.std.proofs.Common.{◌≡◌, ℕ, ◌-◌, ◌↔◌, List, length, take, Bool, true, false, refl, eqb, codes}
use Rattle.std.specs.List.{ends_with}
use Rattle.std.proofs.lemmas.Bool.{both_ways}
use Rattle.std.proofs.lemmas.Bool.Decides.{Decides-eqb}
use Rattle.std.proofs.lemmas.Slice.Eq.{ends_is}
use Rattle.og_report_text.specs.Yes.{EndsWith}
use Rattle.og_report_findings.specs.Says.{SaysNeverStuck}

-- whether a text ends so
tested : (text end : List ℕ) (r : Bool) → r ≡ ends_with eqb text end → (r ≡ true) ↔ EndsWith end text
tested text end r e =
    let both = ends_is Decides-eqb text end r e in
    (λ yes. (take (length text - length end) text, both.0 yes), λ h. both.1 h.0 h.1)

pub says_text : (json : Bool) (text : List ℕ) (r : Bool) → json ≡ false → r ≡ ends_with eqb text (codes "verdict: safe in every run, and never stuck\n") → (r ≡ true) ↔ SaysNeverStuck json text
says_text true text r n e = absurd (both_ways true n refl)
says_text false text r n e = tested text (codes "verdict: safe in every run, and never stuck\n") r e

pub says_json : (json : Bool) (text : List ℕ) (r : Bool) → json ≡ true → r ≡ ends_with eqb text (codes "\"verdict\":\"safe in every run, and never stuck\"}\n") → (r ≡ true) ↔ SaysNeverStuck json text
says_json true text r y e = tested text (codes "\"verdict\":\"safe in every run, and never stuck\"}\n") r e
says_json false text r y e = absurd (both_ways false refl y)
