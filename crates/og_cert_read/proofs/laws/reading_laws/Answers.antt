use Rattle.og_cert_read.proofs.Shortest.{shared_is_shortest}
use Rattle.og_cert_read.proofs.Texts.{written_is_read, one_answer}
use Rattle.og_cert_read.proofs.Sharing.{shared_is_read, shared_is_short, same_cert}
use Rattle.og_cert_read.proofs.Headers.{given_is_read}
use Rattle.og_cert_read.proofs.laws.reading_laws.Goals as goal

pub returns-clause-written : goal.returns-clause-written
returns-clause-written c = written_is_read

pub returns-clause-shared : goal.returns-clause-shared
returns-clause-shared c = shared_is_read

pub returns-clause-short : goal.returns-clause-short
returns-clause-short c = shared_is_short

pub returns-clause-alike : goal.returns-clause-alike
returns-clause-alike c = same_cert

pub returns-clause-one : goal.returns-clause-one
returns-clause-one c = one_answer

pub returns-clause-given : goal.returns-clause-given
returns-clause-given c = given_is_read

pub returns-clause-shortest : goal.returns-clause-shortest
returns-clause-shortest c = shared_is_shortest
