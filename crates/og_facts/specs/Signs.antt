-- Forms with a sign.
use Rattle.std.specs.Prelude.{negsuc, Bool, if◌then◌else◌}
use Rattle.og_linear.specs.Linear.{Terms, FormValue}
use Rattle.og_linear.specs.Arith.{scale_terms}

-- the terms of a form as they are, or each negated
abbrev pub terms_with_sign : FormValue → Bool → Terms
terms_with_sign f is_negated = if is_negated then scale_terms (negsuc 0) f.terms else f.terms
