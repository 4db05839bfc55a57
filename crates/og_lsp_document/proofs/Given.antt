-- The text that is given.
use Rattle.std.proofs.Common.{◌≡◌, ℕ, List, true, false, Bool, ap}
use Rattle.og_report_text.specs.Subject.{Subject}
use Rattle.og_template_outline.specs.Meaning.{MeansBy}

pub given_is : (template : Bool) (text : List ℕ) (s : Subject) → MeansBy template text s → s.given ≡ text
given_is true text s means = means.2
given_is false text s means = ap (λ (t : Subject). t.given) means.1
