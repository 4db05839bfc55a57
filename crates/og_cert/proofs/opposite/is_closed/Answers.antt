use Rattle.std.proofs.Common.{◌∷◌, [], Ok, ap, ap₂, ◌∙◌}
use Rattle.og_cert_text.specs.Tree.{Ref}
use Rattle.og_cert_text.specs.Plain.{ref_of}
use Rattle.og_cert.specs.Checks.{closing}
use Rattle.og_cert.specs.Held.{facts_held}
use Rattle.og_cert.proofs.Opposites.{closed}
use Rattle.og_cert.proofs.opposite.is_closed.Goals as goal

pub returns-in-Some-Some : goal.returns-in-Some-Some
returns-in-Some-Some c = λ yes.
    let n = c.args.variables in
    let fs = facts_held c.args.held.now in
    let k = c.args.a.times in
    let m = c.args.b.times in
    ap₂ (λ (s t : Ref). closing n fs ((k, s) ∷ (m, t) ∷ [])) (ap ref_of c.in-Known-Known.is-0) (ap ref_of c.in-Known-Known.is-1)
    ∙ closed n fs k c.in-Known-Known.i m c.in-Known-Known.j c.in-Some-Some.x c.in-Some-Some.y
    (c.in-Ok-Ok.ensures ∙ ap Ok c.in-Some-Some.ensures) (c.in-Ok-Ok.ensures' ∙ ap Ok c.in-Some-Some.ensures') (c.opposes.ensures yes)
