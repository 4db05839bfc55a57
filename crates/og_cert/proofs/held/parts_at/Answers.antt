use Rattle.std.proofs.Common.{Ok, map, sym, ap, ◌∙◌}
use Rattle.og_facts.specs.Plain.{plain_fact}
use Rattle.og_cert.specs.Checks.{ok_then, split_in}
use Rattle.og_cert.specs.Held.{held_fact}
use Rattle.og_cert.proofs.Trees.{part_of, parts_in}
use Rattle.og_cert.proofs.held.parts_at.Goals as goal

pub returns-in-Split : goal.returns-in-Split
returns-in-Split c =
    ap (λ r. ok_then r split_in) c.in_ok-fact.ensures
    ∙ ap (λ h. split_in (held_fact h)) c.in-Given.is
    ∙ ap (λ f. split_in (plain_fact f)) c.in-Split.is
    ∙ parts_in c.in-Split.parts
    ∙ ap (λ l. Ok (map part_of l)) (sym c.deref.ensures.value)
