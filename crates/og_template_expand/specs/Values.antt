-- The values of constant expressions.
use Rattle.std.specs.Prelude.{◌^◌, ℤ, pos, negsuc, neg_ℤ, ◌+ℤ◌, ◌-ℤ◌, ◌*ℤ◌, int_lt, Bool, nat_lt, Ok, if◌then◌else◌}
use Rattle.std.specs.Int.{int_rem_euclid}
use Rattle.og_text.specs.declared.place.Span.{Span}
use Rattle.og_template.specs.declared.tree.Operator.{Operator}
use Rattle.og_template.specs.declared.tree.Operator.TheVariants as operators
use Rattle.og_template.specs.declared.fault.FaultKind.TheVariants.{ValueTooLarge, BadModulus}
use Rattle.og_template_expand.specs.Trees.{Expression, Number, Negative, Name, Minus, Chain, Links, no_link, link}
use Rattle.og_template_expand.specs.Answer.{Checked, ◌>>=◌, refused}
use Rattle.og_template_expand.specs.Scope.{Scope, number_of}

-- from -2^63 to 2^63 - 1
abbrev pub fits : ℤ → Bool
fits (pos n) = nat_lt n (2 ^ 63)
fits (negsuc n) = nat_lt n (2 ^ 63)

-- a value, which fits 64 bits, or 74
abbrev pub kept : ℤ → Span → Checked ℤ
kept value place = if fits value then Ok value else refused ValueTooLarge place

-- the remainder from 0 to the modulus less 1, or 75 where that is below 1
abbrev pub remainder : ℤ → ℤ → Span → Checked ℤ
remainder value modulus place =
    if int_lt (pos 0) modulus then Ok (int_rem_euclid value modulus) else refused BadModulus place

abbrev pub operated : ℤ → Operator → Span → ℤ → Checked ℤ
operated left operators.Plus place right = kept (left +ℤ right) place
operated left operators.Minus place right = kept (left -ℤ right) place
operated left operators.Times place right = kept (left *ℤ right) place
operated left operators.Mod place right = remainder left right place

-- operators from the left
abbrev mutual
  pub value_of : Scope → Expression → Checked ℤ
  value_of scope (Number n place) = kept (pos n) place
  value_of scope (Negative n place) = kept (neg_ℤ (pos n)) place
  value_of scope (Name name) = number_of scope name
  value_of scope (Minus inner place) = value_of scope inner >>= λ v. kept (neg_ℤ v) place
  value_of scope (Chain first links) = value_of scope first >>= λ v. chained scope v links

  pub chained : Scope → ℤ → Links → Checked ℤ
  chained scope left no_link = Ok left
  chained scope left (link operator place operand others) =
      value_of scope operand
      >>= λ right. operated left operator place right
      >>= λ v. chained scope v others
