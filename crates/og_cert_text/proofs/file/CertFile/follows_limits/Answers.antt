use Rattle.og_cert_text.proofs.Stored.{stored_is_file}
use Rattle.og_cert_text.proofs.file.CertFile.follows_limits.Goals as goal

pub returns : goal.returns
returns c = stored_is_file c.args.self.now.numbers.entries c.args.self.now.certs.items c.len.ensures.ordered c.args.self.now.stored
