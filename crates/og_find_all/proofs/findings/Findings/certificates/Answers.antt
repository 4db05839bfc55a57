use Rattle.std.proofs.Common.{subst}
use Rattle.og_cert_text.specs.Shown.{shown}
use Rattle.og_find_all.specs.Filing.{AreFiled}
use Rattle.og_find_all.proofs.findings.Findings.certificates.Goals as goal

pub returns : goal.returns
returns c =
    let f = c.args.self in
    let file = shown c.file_all_shared.new.file in
    let shared = c.in_ok-file_all_shared.ensures f.verdicts.items c.in_ok-file_verdicts.ensures in
    c.in_ok-file_own.ensures f.places.items f.verdicts.items
    (subst (λ places. AreFiled f.own.items places f.verdicts.items file) c.deref-2.ensures.value
    (subst (λ own. AreFiled own c.deref-2.result.now f.verdicts.items file) c.deref.ensures.value shared))
