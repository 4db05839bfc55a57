use Rattle.std.proofs.Common.{◌≡◌, ◌∙◌, ◌++◌, [], ◌∷◌, ap, rules, length, arith}
use Rattle.og_cert_text.specs.Files.{certificate_of, with_entry}
use Rattle.og_cert_text.specs.Stored.{stored, placed}
use Rattle.og_cert_text.proofs.Stored.{pushed_kept, shown_pushed, placed_last}
use Rattle.og_cert_text.proofs.file.CertFile.put.Goals as goal

pub invariant_of-self : goal.invariant_of-self
invariant_of-self c =
    record { stored = pushed_kept c.push.result c.args.self.now.numbers.entries c.args.self.now.certs.items c.push.new.self.items c.args.cert (search rules) (search rules) c.args.self.now.stored c.requires.good }

pub put_place-requires-clause-fresh : goal.put_place-requires-clause-fresh
put_place-requires-clause-fresh c =
    let ns = c.args.self.now.numbers.entries in
    let cs = c.args.self.now.certs.items in
    ap (λ ds. certificate_of c.args.n (stored ns ds)) c.in_ok-push.ensures.items
    ∙ ap (certificate_of c.args.n) (shown_pushed ns cs c.args.cert c.args.self.now.stored)
    ∙ c.requires.fresh

pub returns-in-Ok-clause-ok : goal.returns-in-Ok-clause-ok
returns-in-Ok-clause-ok c =
    let ns = c.args.self.now.numbers.entries in
    let cs = c.args.self.now.certs.items in
    let at : c.len-place.result ≡ length cs = omega (arith, c.len-place.ensures) in
    c.in-Ok.ensures.ok
    ∙ ap (λ ds. with_entry c.args.n (placed ds c.len-place.result) (stored ns ds)) c.in_ok-push.ensures.items
    ∙ ap (λ es. with_entry c.args.n (placed (cs ++ c.args.cert ∷ []) c.len-place.result) es) (shown_pushed ns cs c.args.cert c.args.self.now.stored)
    ∙ ap (λ i. with_entry c.args.n (placed (cs ++ c.args.cert ∷ []) i) (stored ns cs)) at
    ∙ ap (λ d. with_entry c.args.n d (stored ns cs)) (placed_last cs c.args.cert)
