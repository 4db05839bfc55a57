use Rattle.og_template.specs.Front.{is_template}
use Rattle.og_program.specs.World.{named}
use Rattle.og_program.proofs.Faults.{wants_else}
use Rattle.og_program.proofs.Meant.{of_source, of_template, follows_source}
use Rattle.og_program.proofs.refusing.refuse_meaning.Goals as goal

pub refuse_source-requires : goal.refuse_source-requires
refuse_source-requires c =
    of_source (is_template c.args.text.now) c.requires.0 c.args.text.now c.requires.1 c.args.error c.in-Source.fault c.in-Source.is c.requires.2

pub report_of_template-requires : goal.report_of_template-requires
report_of_template-requires c =
    of_template (is_template c.args.text.now) c.requires.0 c.args.text.now c.requires.1 c.args.error c.in-Template.fault c.in-Template.is c.requires.2

pub returns-in-Source-clause-outcome : goal.returns-in-Source-clause-outcome
returns-in-Source-clause-outcome c =
    follows_source (named c.args.name.now c.args.text.now) c.in-Source.fault c.args.error c.refuse_source.result c.in-Source.is c.refuse_source.ensures.refused

pub returns-in-Source-clause-want : goal.returns-in-Source-clause-want
returns-in-Source-clause-want c =
    wants_else _ ⊥ c.refuse_source.result (λ is. cc) c.refuse_source.ensures.want
