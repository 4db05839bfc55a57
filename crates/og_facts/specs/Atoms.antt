-- The terms of an inequality, which are borrowed, as they are or negated, or owned.
use Rattle.std.specs.Prelude.{◌≡◌, negsuc, true}
use Rattle.og_linear.specs.Linear.{Terms}
use Rattle.og_linear.specs.Tidy.{IsTidy}
use Rattle.og_linear.specs.Arith.{scale_terms}
use Rattle.og_linear.specs.Bounded.{fits_terms}
use Rattle.og_facts.specs.declared.atom.Base.{Base}
use Rattle.og_facts.specs.Signs.{terms_with_sign}
use Rattle.og_facts.specs.declared.signed.Signed.{Signed}
use Rattle.og_facts.specs.declared.atom.Base.TheVariants as base

abbrev pub terms_in : Base → Terms
terms_in (base.Lent form) = form.now.terms
terms_in (base.Negated form) = scale_terms (negsuc 0) form.now.terms
terms_in (base.Own form) = form.value.terms

-- they rise, none is 0, and each number fits
abbrev pub AreTerms : Base → Type 0
AreTerms b = IsTidy (terms_in b) × (fits_terms (terms_in b) ≡ true)

-- the terms that are meant
abbrev pub signed_terms : Signed → Terms
signed_terms s = terms_with_sign s.form.now s.is_negated
