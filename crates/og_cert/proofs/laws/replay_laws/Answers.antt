use Rattle.std.proofs.lemmas.Bool.{false_from_ne_true}
use Rattle.og_facts.specs.Truth.{all_true_at}
use Rattle.og_cert.proofs.Faultless.{no_fault}
use Rattle.og_cert.proofs.Refuting.{closed_is_false, closed_is_valid}
use Rattle.og_cert.proofs.Written.{lines_written}
use Rattle.og_cert.proofs.laws.replay_laws.Goals as goal

pub returns-clause-lines : goal.returns-clause-lines
returns-clause-lines c = lines_written

pub returns-clause-faults : goal.returns-clause-faults
returns-clause-faults c = λ n fs d. no_fault d 1 n fs

pub returns-clause-refuted : goal.returns-clause-refuted
returns-clause-refuted c = λ n fs d s proper e. false_from_ne_true (all_true_at s fs) (closed_is_false n s proper d fs e)

pub returns-clause-valid : goal.returns-clause-valid
returns-clause-valid c = closed_is_valid
