use Rattle.std.proofs.Common.{sym, ap, ◌∙◌, option_map, rules}
use Rattle.og_cert_text.specs.Stored.{placed}
use Rattle.og_cert_text.proofs.Stored.{found_at}
use Rattle.og_cert_text.proofs.file.CertFile.kept_at.Goals as goal

pub returns-clause-certificate : goal.returns-clause-certificate
returns-clause-certificate c =
    let ns = c.args.self.now.numbers.entries in
    let cs = c.args.self.now.certs.items in
    found_at c.args.n ns cs ∙ ap (option_map (placed cs)) (sym (search rules))
