use Rattle.std.proofs.Common.{◌≡◌, ◌-◌, ◌∙◌, Ok, Some, length, refl, sym, ap, subst, arith}
use Rattle.std.specs.Prelude.{option_map}
use Rattle.std.proofs.lemmas.Option.{slice_get_read, get_or_from_slice_get}
use Rattle.og_cond.specs.declared.condition.Condition.{Condition}
use Rattle.og_cond.specs.Seen.{seen}
use Rattle.og_facts.specs.Answer.{IsFacts}
use Rattle.og_cert_text.specs.Files.{certificate_of}
use Rattle.og_cert_text.specs.Shown.{shown}
use Rattle.og_cert_text.specs.Stored.{placed}
use Rattle.og_pool.proofs.Statuses as statuses
use Rattle.og_pool.proofs.checks.Checks.is_like.Goals as goal

pub returns-in-Ok : goal.returns-in-Ok
returns-in-Ok g c = λ yes.
    let cs = c.args.self.now.conditions.now in
    let file = c.args.self.now.certs.now in
    let other = c.args.other in
    let some = c.requires.other.0 in
    let few = c.requires.other.1 in
    let its = statuses.some_condition cs c.args.number c.requires.within.0 c.requires.within.1 in
    let there = slice_get_read cs (length cs) (other - 1) c.index-self-other.result refl (omega (arith, some, few)) c.index-self-other.is in
    let places = c.in-Some-Some.is-0 ∙ ap Some c.if-place-of_other.false ∙ sym c.in-Some-Some.is-1 in
    let one : certificate_of c.args.number (shown file) ≡ certificate_of other (shown file) =
    c.kept_at.ensures.certificate ∙ ap (option_map (placed file.certs.items)) places ∙ sym c.kept_at-2.ensures.certificate in
    let found = subst (λ (d : Condition). IsFacts (seen d) (Ok c.in-Ok.others)) (get_or_from_slice_get cs (other - 1) c.index-self-other.result c.index-self-other.result there) c.in-Ok.ensures in
    statuses.is_like cs file c.args.number other its.0 c.index-self-other.result c.args.list.now c.in-Ok.others its.1 there one
    (c.requires.facts its.0 its.1) found (c.equals.ensures.0 yes)
