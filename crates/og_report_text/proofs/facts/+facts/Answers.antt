use Rattle.std.proofs.Common.{◌++◌, ◌∷◌, [], map, sym, ap, ◌∙◌}
use Rattle.og_facts.specs.Answer.{shown}
use Rattle.og_facts.specs.Facts.{parts_of_list}
use Rattle.og_facts.specs.Plain.{plain_fact}
use Rattle.og_facts.proofs.Trees.{plain_split}
use Rattle.og_report_text.specs.Listing.{parts_text, fact_text}
use Rattle.og_report_text.proofs.facts.+facts.Goals as goal

pub put_fact-loop-part-init : goal.put_fact-loop-part-init
put_fact-loop-part-init t c =
    ap (λ l. c.args.text.now.items ++ parts_text c.args.names.now (40 ∷ []) (parts_of_list (map shown l))) c.deref-part-items.ensures.value
    ∙ ap (λ f. c.args.text.now.items ++ fact_text c.args.names.now f) (sym (ap plain_fact c.in-Split.is ∙ plain_split c.in-Split.parts))
