use Rattle.og_lsp_frame.proofs.Fronts.{message_on, fault_on}
use Rattle.og_lsp_frame.proofs.laws.front_goes_on.Goals as goal

pub returns-clause-message : goal.returns-clause-message
returns-clause-message c = λ stream body rest more is. message_on stream body rest more is

pub returns-clause-fault : goal.returns-clause-fault
returns-clause-fault c = fault_on
