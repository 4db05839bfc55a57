use Rattle.og_violation.proofs.Refuting.{refutes_progress}
use Rattle.og_violation.proofs.laws.refutes_progress.Goals as goal

pub returns : goal.returns
returns c o v is stuck safe unblocked = refutes_progress o v.values v.history.items v.wrong is stuck safe unblocked
