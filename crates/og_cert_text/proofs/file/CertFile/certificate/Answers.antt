use Rattle.std.proofs.Common.{sym, ◌∙◌, ap, option_map}
use Rattle.og_cert_text.specs.Plain.{plain_cert}
use Rattle.og_cert_text.proofs.Stored.{none_at, some_at, borrowed, place_within}
use Rattle.og_cert_text.proofs.file.CertFile.certificate.Goals as goal

pub returns-in_err-place-clause-found : goal.returns-in_err-place-clause-found
returns-in_err-place-clause-found c =
    ap (option_map (λ x. plain_cert x.now)) c.from_residual.ensures
    ∙ sym (none_at c.args.n c.args.self.now.numbers.entries c.args.self.now.certs.items c.kept_at.result c.kept_at.ensures.place c.in_err-place.was)

pub returns-clause-found : goal.returns-clause-found
returns-clause-found c =
    let ns = c.args.self.now.numbers.entries in
    let cs = c.args.self.now.certs.items in
    borrowed c.get.result cs c.deref.result.now c.in_ok-place.place c.deref.ensures.value c.get.ensures.lookup
    (place_within _ ns cs c.in_ok-place.place c.args.self.now.stored (sym c.kept_at.ensures.place ∙ c.in_ok-place.was))
    ∙ sym (some_at c.args.n c.in_ok-place.place ns cs c.kept_at.result c.kept_at.ensures.place c.in_ok-place.was)
