use Rattle.std.proofs.Common.{◌∙◌, ℕ, List, ap, length}
use Rattle.std.specs.Prelude.{◌==◌}
use Rattle.og_report_prove.proofs.Openings.{no_opening}
use Rattle.og_report_prove.proofs.sentences.begins.Goals as goal

pub returns : goal.returns
returns c = c.is_empty.ensures ∙ ap (λ (l : List ℕ). length l == 0) c.opening.ensures ∙ no_opening c.args.kind
