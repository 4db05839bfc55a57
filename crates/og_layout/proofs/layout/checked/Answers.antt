use Rattle.og_layout.proofs.Short.{short_parts}
use Rattle.og_layout.proofs.layout.checked.Goals as goal

pub returns-in-Err-clause-error : goal.returns-in-Err-clause-error
returns-in-Err-clause-error c = short_parts c.args.text.now c.args.parts.now c.requires
