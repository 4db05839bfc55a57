use Rattle.std.proofs.Common.{ap, ◌∙◌}
use Rattle.std.specs.Prelude.{option_map}
use Rattle.og_template_expand.specs.Scoped.{meaning_of}
use Rattle.og_template_expand.proofs.Naming.{meaning_found}
use Rattle.og_template_expand.proofs.scope.Names.get.Goals as goal

pub returns-in-Some : goal.returns-in-Some
returns-in-Some c = ap (option_map meaning_of) c.in-Some.ensures.value ∙ meaning_found c.args.self.now.map.entries c.args.name.now

pub returns-in-None : goal.returns-in-None
returns-in-None c = ap (option_map meaning_of) c.in-None.ensures.value ∙ meaning_found c.args.self.now.map.entries c.args.name.now
