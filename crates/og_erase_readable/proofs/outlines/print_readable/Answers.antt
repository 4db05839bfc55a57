use Rattle.std.proofs.Common.{◌≡◌, IfOk, ap, ◌∙◌, subst}
use Rattle.og_parse.specs.Trees.{Outline}
use Rattle.og_print.specs.Print.{program_text}
use Rattle.og_erase_readable.specs.Readable as wanted
use Rattle.og_erase_readable.proofs.outlines.print_readable.Goals as goal

pub returns-clause-text : goal.returns-clause-text
returns-clause-text c =
    subst (λ (t : Outline). IfOk c.print_program.result (λ text. text.items ≡ program_text t)) (c.in_ok-made.ensures.made ∙ ap wanted.readable c.in_ok-collected.ensures) c.print_program.ensures
