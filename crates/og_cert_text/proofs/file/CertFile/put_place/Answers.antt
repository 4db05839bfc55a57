use Rattle.std.proofs.Common.{◌∙◌, ap}
use Rattle.og_cert_text.specs.Stored.{stored}
use Rattle.og_cert_text.proofs.Stored.{shown_inserted, entries_kept}
use Rattle.og_cert_text.proofs.file.CertFile.put_place.Goals as goal

pub invariant_of-self : goal.invariant_of-self
invariant_of-self c =
    record { stored = entries_kept c.insert.result c.args.self.now.numbers.entries c.insert.new.self.entries c.args.self.now.certs.items c.args.n c.args.place c.insert.ensures.entries c.insert.ensures.err c.args.self.now.stored c.requires.fresh c.requires.number c.requires.within }

pub returns-clause-ok : goal.returns-clause-ok
returns-clause-ok c =
    ap (λ es. stored es c.args.self.now.certs.items) c.in_ok-insert.ensures.entries
    ∙ shown_inserted c.args.self.now.numbers.entries c.args.self.now.certs.items c.args.n c.args.place c.requires.fresh

pub returns-clause-kept : goal.returns-clause-kept
returns-clause-kept c = c.in_ok-insert.ensures.updates.1
