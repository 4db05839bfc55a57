use Rattle.og_violation.proofs.Refuting.{refutes_safety}
use Rattle.og_violation.proofs.laws.refutes_safety.Goals as goal

pub returns : goal.returns
returns c o v is other safe = refutes_safety o v.values v.history.items v.wrong is other safe
