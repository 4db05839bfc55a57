use Rattle.std.proofs.Common.{map, subst}
use Rattle.og_parse.specs.TreeOf.{element_of}
use Rattle.og_template_expand.specs.Scoped.{IsExpanded, scope_of}
use Rattle.og_template_expand.proofs.Gathered.{elements_gathered}
use Rattle.og_template_expand.proofs.statements.body.Goals as goal

pub returns : goal.returns
returns c = subst (IsExpanded (λ v. map element_of v.items) c.all_made.result) (elements_gathered (scope_of c.args.scope.now) c.args.elements.now) c.all_made.ensures
