-- The terms of sums.
use Rattle.std.specs.Prelude.{ℕ, ◌*◌, ◌^◌, ℤ, pos, negsuc, unsigned_abs, nat_le, List, [], ◌∷◌, ◌++◌, length, Ok, if◌then◌else◌}
use Rattle.std.specs.Fmt.{signed_decimal}
use Rattle.og_text.specs.declared.place.Span.{Span}
use Rattle.og_parse.specs.declared.raw.RawName.{RawName}
use Rattle.og_parse.specs.declared.raw.RawTerm.{RawTerm}
use Rattle.og_parse.specs.declared.raw.RawFactor.TheVariants as factors
use Rattle.og_parse.specs.declared.raw.Sign.{Sign}
use Rattle.og_parse.specs.declared.raw.Sign.TheVariants.{Plus, Minus}
use Rattle.og_parse.specs.Trees as outline
use Rattle.og_template.specs.declared.fault.FaultKind.TheVariants.{NameTooLong, OutOfRange, ValueTooLarge, WrongKind}
use Rattle.og_template_expand.specs.Trees.{Expression, Factor, Numeral, Bracketed, Named, Element, Applied, Kind, Single, Product, Total, Terms, no_term, term, Sum}
use Rattle.og_template_expand.specs.Answer.{Checked, ◌>>=◌, refused}
use Rattle.og_template_expand.specs.Scope.{Scope, Meaning, Value, Variable, Family, Defined, Range, meaning_of, family_of}
use Rattle.og_template_expand.specs.Values.{value_of}
use Rattle.og_template_expand.specs.Ranges.{is_in, instances}

-- ---- elements of families

-- the family's name, `_`, and the index
abbrev pub element_bytes : List ℕ → ℤ → List ℕ
element_bytes family index = family ++ 95 ∷ signed_decimal index

-- a name of at most 64 bytes, or 3, at the family's name
abbrev pub element_name : RawName → ℤ → Checked RawName
element_name family index =
    if nat_le (length (element_bytes family.name index)) 64
    then Ok (record { name = element_bytes family.name index; span = family.span })
    else refused NameTooLong family.span

-- the element that an index picks, or 73
abbrev pub element_in : Range → RawName → ℤ → Checked RawName
element_in range name index =
    if is_in index range then element_name name index else refused OutOfRange name.span

abbrev pub element_of : Scope → RawName → Expression → Checked RawName
element_of scope name index = do
  i ← value_of scope index
  range ← family_of scope name
  element_in range name i

-- ---- factors

-- a number with its sign, or a variable
pub data Operand : Type 0 where
  Whole : Sign → ℕ → Operand
  Of : RawName → Operand

abbrev pub sign_of : ℤ → Sign
sign_of (pos n) = Plus
sign_of (negsuc n) = Minus

abbrev pub whole : ℤ → Operand
whole z = Whole (sign_of z) (unsigned_abs z)

abbrev pub operand_as : RawName → Meaning → Checked Operand
operand_as name (Value v) = Ok (whole v)
operand_as name Variable = Ok (Of name)
operand_as name (Family range) = refused WrongKind name.span
operand_as name (Defined d) = refused WrongKind name.span

abbrev pub operand_of : Scope → Factor → Checked Operand
operand_of scope (Numeral n) = Ok (Whole Plus n)
operand_of scope (Bracketed e) = value_of scope e >>= λ v. Ok (whole v)
operand_of scope (Named name) = meaning_of scope name >>= operand_as name
operand_of scope (Element name index) = element_of scope name index >>= λ x. Ok (Of x)
operand_of scope (Applied name arguments) = refused WrongKind name.span

-- ---- terms

-- two minus signs make a plus
abbrev pub times : Sign → Sign → Sign
times Plus s = s
times Minus Plus = Minus
times Minus Minus = Plus

abbrev pub single : Sign → Operand → RawTerm
single sign (Whole own n) = record { sign = times sign own; factor = factors.Number n }
single sign (Of name) = record { sign = sign; factor = factors.Variable name }

-- a number times a number is one number, of at most 2^63 in magnitude, or 74
abbrev pub number_product : Sign → ℕ → ℕ → Span → Checked RawTerm
number_product sign c d place =
    if nat_le (c * d) (2 ^ 63) then Ok (record { sign = sign; factor = factors.Number (c * d) })
    else refused ValueTooLarge place

abbrev pub product_of : Sign → Operand → Operand → Span → Checked RawTerm
product_of sign (Whole left c) (Whole right d) place =
    number_product (times sign (times left right)) c d place
product_of sign (Whole left c) (Of name) place =
    Ok (record { sign = times sign left; factor = factors.Product c name })
product_of sign (Of name) other place = refused WrongKind name.span

abbrev pub product_in : Scope → Sign → Factor → Factor → Span → Checked RawTerm
product_in scope sign left right place = do
  c ← operand_of scope left
  x ← operand_of scope right
  product_of sign c x place

-- without an instance a total is the term 0
abbrev pub or_zero : Sign → List RawTerm → List RawTerm
or_zero sign [] = single sign (Whole Plus 0) ∷ []
or_zero sign (t ∷ ts) = t ∷ ts

-- terms, where each sign is turned behind a minus
abbrev mutual
  pub kind_of : Scope → Sign → Span → Kind → Checked (List RawTerm)
  kind_of scope sign place (Single factor) = do
    x ← operand_of scope factor
    Ok (single sign x ∷ [])
  kind_of scope sign place (Product left right) = do
    t ← product_in scope sign left right place
    Ok (t ∷ [])
  kind_of scope sign place (Total binder terms) = do
    all ← instances scope binder (λ inner. terms_of inner sign terms)
    Ok (or_zero sign all)

  pub terms_of : Scope → Sign → Terms → Checked (List RawTerm)
  terms_of scope sign no_term = Ok []
  terms_of scope sign (term own place kind others) =
      kind_of scope (times sign own) place kind
      >>= λ ts. terms_of scope sign others
      >>= λ more. Ok (ts ++ more)

abbrev pub sum_of : Scope → Sum → Checked outline.Sum
sum_of scope sum = do
  terms ← terms_of scope Plus sum.value
  Ok (record { place = sum.place; value = terms })
