use Rattle.std.proofs.Common.{◌∙◌, ℕ, List, Bor, ap, map}
use Rattle.og_report_refusal.specs.Reasons.{found_line}
use Rattle.og_report_refusal.proofs.template_expected.reason_among.Goals as goal

pub returns : goal.returns
returns c =
    let may : List (List ℕ) = map (λ (w : Bor (List ℕ)). w.now) c.deref-2.result.now in
    (may, c.in_ok-found_line.ensures ∙ ap (λ (found : List ℕ). found_line found may) (c.deref.ensures.value ∙ c.in_ok-found.ensures))
