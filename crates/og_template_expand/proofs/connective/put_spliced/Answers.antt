use Rattle.std.proofs.Common.{[], ◌∷◌, ap, ap₂, ◌∙◌}
use Rattle.og_parse.specs.TreeOf.{assertion_of as tree_of}
use Rattle.og_template_expand.specs.Assertions.{spliced}
use Rattle.og_template_expand.proofs.Spliced.{and_in_and, or_in_or, and_alone, or_alone, put}
use Rattle.og_template_expand.proofs.connective.put_spliced.Goals as goal

pub returns-in_ok-append-in-And-operand : goal.returns-in_ok-append-in-And-operand
returns-in_ok-append-in-And-operand c =
    put c.args.all.now.items c.in-And-operand.operands.items c.in_ok-append-in-And-operand.ensures.items
    (ap₂ spliced c.in-And.is (ap tree_of c.in-And-operand.is) ∙ and_in_and c.in-And-operand.operands)

pub returns-in_ok-push-in_default : goal.returns-in_ok-push-in_default
returns-in_ok-push-in_default c =
    put c.args.all.now.items (c.args.operand ∷ []) c.in_ok-push-in_default.ensures.items
    (ap (λ k. spliced k (tree_of c.args.operand)) c.in-And.is ∙ and_alone c.args.operand c.in_default.not-And)

pub returns-in_ok-append-in-Or-operand : goal.returns-in_ok-append-in-Or-operand
returns-in_ok-append-in-Or-operand c =
    put c.args.all.now.items c.in-Or-operand.operands.items c.in_ok-append-in-Or-operand.ensures.items
    (ap₂ spliced c.in-Or.is (ap tree_of c.in-Or-operand.is) ∙ or_in_or c.in-Or-operand.operands)

pub returns-in_ok-push-in_default-operand : goal.returns-in_ok-push-in_default-operand
returns-in_ok-push-in_default-operand c =
    put c.args.all.now.items (c.args.operand ∷ []) c.in_ok-push-in_default-operand.ensures.items
    (ap (λ k. spliced k (tree_of c.args.operand)) c.in-Or.is ∙ or_alone c.args.operand c.in_default-operand.not-Or)
