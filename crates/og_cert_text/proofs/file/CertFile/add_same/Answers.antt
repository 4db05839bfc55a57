use Rattle.std.proofs.Common.{◌≡◌, refl, sym, ◌∙◌, true, false, ap, ap₂, Err}
use Rattle.std.proofs.lemmas.Result.{err_from_is_err_and}
use Rattle.std.specs.Option.{is_none}
use Rattle.og_cert_text.specs.Files.{certificate_of}
use Rattle.og_cert_text.specs.Stored.{stored}
use Rattle.og_cert_text.specs.Shown.{shown, fault_of_same}
use Rattle.og_cert_text.proofs.Adding.{same_is, same_added, not_added}
use Rattle.og_cert_text.proofs.Stored.{none_at, some_at, not_some, place_within}
use Rattle.og_cert_text.proofs.file.CertFile.add_same.Goals as goal

pub returns-then-has-clause-added : goal.returns-then-has-clause-added
returns-then-has-clause-added c = (same_is c.args.n c.args.k (shown c.args.self.now) true _ _ (sym c.has.ensures ∙ c.if-has.true) refl refl, refl)

pub returns-in_default-clause-added : goal.returns-in_default-clause-added
returns-in_default-clause-added c = (
  same_is c.args.n c.args.k (shown c.args.self.now) false true _ (sym c.has.ensures ∙ c.if-has.false)
      (ap is_none (none_at c.args.k c.args.self.now.numbers.entries c.args.self.now.certs.items c.kept_at.result c.kept_at.ensures.place c.in_default.is)) refl,
  refl,
)

pub returns-then-not-is_number-clause-added : goal.returns-then-not-is_number-clause-added
returns-then-not-is_number-clause-added c = (
  same_is c.args.n c.args.k (shown c.args.self.now) false false false (sym c.has.ensures ∙ c.if-has.false)
      (ap is_none (some_at c.args.k c.in-Some.place c.args.self.now.numbers.entries c.args.self.now.certs.items c.kept_at.result c.kept_at.ensures.place c.in-Some.is))
      (sym c.is_number.ensures ∙ c.if-not-is_number.true),
  refl,
)

pub put_place-requires-clause-fresh : goal.put_place-requires-clause-fresh
put_place-requires-clause-fresh c = not_some _ (sym c.has.ensures ∙ c.if-has.false)

pub put_place-requires-clause-within : goal.put_place-requires-clause-within
put_place-requires-clause-within c = place_within _ c.args.self.now.numbers.entries c.args.self.now.certs.items c.in-Some.place c.args.self.now.stored (sym c.kept_at.ensures.place ∙ c.in-Some.is)

pub returns-clause-added : goal.returns-clause-added
returns-clause-added c =
    let some = some_at c.args.k c.in-Some.place c.args.self.now.numbers.entries c.args.self.now.certs.items c.kept_at.result c.kept_at.ensures.place c.in-Some.is in
    same_added c.args.n c.args.k (shown c.args.self.now) (shown c.put_place.new.self) _ some
    (same_is c.args.n c.args.k (shown c.args.self.now) false false true (sym c.has.ensures ∙ c.if-has.false) (ap is_none some) (sym c.is_number.ensures ∙ c.if-not-is_number.false))
    c.in_ok-put_place.ensures.ok

pub returns-in_err-put_place-clause-added : goal.returns-in_err-put_place-clause-added
returns-in_err-put_place-clause-added c =
    let some = some_at c.args.k c.in-Some.place c.args.self.now.numbers.entries c.args.self.now.certs.items c.kept_at.result c.kept_at.ensures.place c.in-Some.is in
    let p = err_from_is_err_and c.from_residual.result c.from_residual.ensures.1 in
    let kept : shown c.put_place.new.self ≡ shown c.args.self.now = ap₂ stored c.in_err-put_place.ensures.err (ap (λ v. v.items) c.put_place.ensures.certs) in
    not_added c.from_residual.result (fault_of_same c.args.n c.args.k (shown c.args.self.now)) (certificate_of c.args.k (shown c.args.self.now)) c.args.n (shown c.args.self.now) (shown c.put_place.new.self)
    (p.1 ∙ ap Err p.2)
    (same_is c.args.n c.args.k (shown c.args.self.now) false false true (sym c.has.ensures ∙ c.if-has.false) (ap is_none some) (sym c.is_number.ensures ∙ c.if-not-is_number.false)) kept

pub returns-clause-kept : goal.returns-clause-kept
returns-clause-kept c = c.in_ok-put_place.ensures.kept ∙ sym (sym c.kept_at.ensures.place ∙ c.in-Some.is)
