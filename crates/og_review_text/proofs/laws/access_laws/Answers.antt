use Rattle.og_review_text.proofs.Accessing.{both_are_these, reads_are_these, writes_are_these}
use Rattle.og_review_text.proofs.laws.access_laws.Goals as goal

pub returns-clause-both : goal.returns-clause-both
returns-clause-both c = both_are_these

pub returns-clause-reads : goal.returns-clause-reads
returns-clause-reads c = reads_are_these

pub returns-clause-writes : goal.returns-clause-writes
returns-clause-writes c = writes_are_these
