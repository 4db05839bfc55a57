use Rattle.std.proofs.Common.{◌≡◌, ◌∷◌, sym, ap, ◌∙◌, subst}
use Rattle.og_cert_text.specs.Plain.{plain_cert}
use Rattle.og_cert_text.specs.Rising.{above}
use Rattle.og_cert_text.specs.Shown.{shown}
use Rattle.og_cert_text.proofs.Stored.{placed_at}
use Rattle.og_cert_text.proofs.file.CertFile.entry_above.Goals as goal

pub returns : goal.returns
returns c =
    let n = c.in_ok-number.number in
    let es = shown c.args.self.now in
    let place = c.in_ok-number.place in
    let cert = c.index.result.now in
    let its = placed_at c.args.self.now.certs.items place cert c.in_ok-number.ensures.within ∙ ap plain_cert (sym c.index.ensures) in
    subst (λ d. above c.args.n es ≡ (n, d) ∷ above n es) its c.in_ok-number.ensures.next
