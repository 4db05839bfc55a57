use Rattle.std.proofs.Common.{◌∙◌}
use Rattle.og_cert_text.proofs.Stored.{has_at}
use Rattle.og_cert_text.proofs.file.CertFile.has.Goals as goal

pub returns : goal.returns
returns c = c.is_some.ensures ∙ has_at c.args.n c.args.self.now.numbers.entries c.args.self.now.certs.items c.kept_at.result c.kept_at.ensures.place
