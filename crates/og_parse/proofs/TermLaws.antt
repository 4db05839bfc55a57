-- The laws of reading sums and comparisons, which open no level.
use Rattle.std.proofs.Common.{◌≡◌, ℕ, Bool, true, false, [], ◌∷◌, Some, refl}
use Rattle.og_text.specs.Kinds.{number_of}
use Rattle.og_text.specs.declared.token.TokenKind.{TokenKind}
use Rattle.og_text.specs.declared.token.TokenKind.TheVariants as kinds
use Rattle.og_text.specs.declared.place.Span.{Span}
use Rattle.og_parse.specs.Language.{One}
use Rattle.og_parse.specs.Fronts.{Begins}
use Rattle.og_parse.specs.Reading.{nothing, is_a, or, token_at}
use Rattle.og_parse.proofs.Languages.{Starts, Apart, many_avoids}
use Rattle.og_parse.proofs.More.{symbol_starts, then_starts, then_avoids, gives_avoids, one_some, one_avoids}
use Rattle.og_parse.proofs.Bundle.{Reads, starts_also, or_left, or_right, or_fails, or_apart, is_a_fails, either_starts, if_starts, with_place_starts, one_starts, avoids_by, map_avoids, gives_reads, symbol_reads, one_reads, then_reads, next_reads, map_reads, either_reads, many_reads, if_symbol_reads, with_place_reads}
use Rattle.og_parse.proofs.Loops.{Shortens, shortens_by}
use Rattle.og_parse.specs.declared.raw.RawName.{RawName}
use Rattle.og_parse.specs.declared.raw.Sign.{Sign}
use Rattle.og_parse.specs.declared.raw.Sign.TheVariants.{Plus, Minus}
use Rattle.og_parse.specs.declared.raw.Relation.{Relation}
use Rattle.og_parse.specs.declared.raw.RawFactor.TheVariants.{Variable}
use Rattle.og_parse.specs.Trees.{Comparison}
use Rattle.og_parse.specs.Words.{name_kind, name_of, number_kind, value_of, sign_kind, sign_of, relation_kind, relation_of}
use Rattle.og_parse.specs.Grammar.{IsLeading, product, IsProduct, IsFactor, term, IsTermAfter, IsTerms, IsSum, IsSigned, IsInt, IsComparison}
use Rattle.og_parse.specs.Reads.{a_name, a_sign, leading_at, product_at, factor_at, term_after_at, terms_at, sum_at, signed_at, int_at, comparison_at}

-- ---- tokens with a value

name_numbers : (span : Span) (kind : TokenKind) (x : RawName) → name_kind span kind ≡ Some x → number_of kind ≡ 0
name_numbers span (kinds.Name bytes) x e = refl
name_numbers span kind x e = absurd cc

value_numbers : (kind : TokenKind) (x : ℕ) → number_kind kind ≡ Some x → number_of kind ≡ 1
value_numbers (kinds.Number n) x e = refl
value_numbers kind x e = absurd cc

sign_numbers : (kind : TokenKind) (x : Sign) → sign_kind kind ≡ Some x → a_sign (number_of kind) ≡ true
sign_numbers kinds.Plus x e = refl
sign_numbers kinds.Minus x e = refl
sign_numbers kind x e = absurd cc

-- kinds of the first tokens, and of those that go on with a part
abbrev pub a_number : ℕ → Bool
a_number = is_a (kinds.Number 0)

abbrev pub a_factor : ℕ → Bool
a_factor = or a_name a_number

abbrev pub a_sum : ℕ → Bool
a_sum = or (is_a kinds.Minus) a_factor

abbrev pub after_leading : ℕ → Bool
after_leading = or (is_a kinds.Minus) nothing

abbrev pub after_factor : ℕ → Bool
after_factor = or (is_a kinds.Star) nothing

abbrev pub after_sum : ℕ → Bool
after_sum = or a_sign after_factor

relation_numbers : (kind : TokenKind) (x : Relation) → relation_kind kind ≡ Some x → after_sum (number_of kind) ≡ false
relation_numbers kinds.LessEqual x e = refl
relation_numbers kinds.Less x e = refl
relation_numbers kinds.GreaterEqual x e = refl
relation_numbers kinds.Greater x e = refl
relation_numbers kinds.Equal x e = refl
relation_numbers kinds.NotEqual x e = refl
relation_numbers kind x e = absurd cc

pub name_some : Begins (One name_of) []
name_some = one_some name_of (record { kind = kinds.Name []; span = record { start = 0; end = 0 } }) _ refl

pub value_some : Begins (One value_of) []
value_some = one_some value_of (record { kind = kinds.Number 0; span = record { start = 0; end = 0 } }) _ refl

sign_some : Begins (One sign_of) []
sign_some = one_some sign_of (record { kind = kinds.Plus; span = record { start = 0; end = 0 } }) _ refl

relation_some : Begins (One relation_of) []
relation_some = one_some relation_of (record { kind = kinds.Equal; span = record { start = 0; end = 0 } }) _ refl

pub name_starts : Starts (One name_of) a_name
name_starts = one_starts name_of a_name (λ token x e. rw (name_numbers token.span token.kind x e) refl)

pub value_starts : Starts (One value_of) a_number
value_starts = one_starts value_of a_number (λ token x e. rw (value_numbers token.kind x e) refl)

pub sign_starts : Starts (One sign_of) a_sign
sign_starts = one_starts sign_of a_sign (λ token x e. sign_numbers token.kind x e)

pub name_reads : {More : Type 0} (longer : ℕ → Bool) → Reads More (token_at name_of) (token_at name_of) (One name_of) (One name_of) longer
name_reads longer = one_reads name_of longer name_some

-- ---- factors and sums

leading_reads : {More : Type 0} → Reads More leading_at leading_at IsLeading IsLeading after_leading
unfolding leading_at
leading_reads = either_reads (is_a kinds.Minus) (map_reads (λ at. Minus) (symbol_reads kinds.Minus refl after_leading)) (then_starts (symbol_starts kinds.Minus)) (gives_reads Plus after_leading) (gives_avoids Plus (is_a kinds.Minus) nothing)

product_reads : {More : Type 0} → Reads More product_at product_at IsProduct IsProduct after_factor
unfolding product_at
product_reads = next_reads (one_reads value_of nothing value_some) (λ n. map_reads (product n) (if_symbol_reads kinds.Star refl (name_reads nothing)))

factor_reads : {More : Type 0} → Reads More factor_at factor_at IsFactor IsFactor after_factor
unfolding factor_at
factor_reads = either_reads a_name (map_reads Variable (name_reads after_factor)) (then_starts name_starts) product_reads (avoids_by (is_a_fails (kinds.Number 0) a_name refl) (then_starts value_starts))

factor_starts : Starts IsFactor a_factor
factor_starts = either_starts (starts_also (or_left a_name a_number) (then_starts name_starts)) (starts_also (or_right a_name a_number) (then_starts value_starts))

-- a factor doesn't begin with what fails at a name and at a number
a_factor_fails : (test : ℕ → Bool) → test 0 ≡ false → test 1 ≡ false → (n : ℕ) → a_factor n ≡ true → test n ≡ false
a_factor_fails test at_name at_number = or_fails a_name a_number test (is_a_fails (kinds.Name []) test at_name) (is_a_fails (kinds.Number 0) test at_number)

term_after_reads : {More : Type 0} → Reads More term_after_at term_after_at IsTermAfter IsTermAfter after_factor
unfolding term_after_at
term_after_reads = next_reads (one_reads sign_of nothing sign_some) (λ sign. map_reads (term sign) factor_reads)

pub term_after_starts : Starts IsTermAfter a_sign
term_after_starts = then_starts sign_starts

signs_apart : Apart a_sign after_factor after_sum
signs_apart = or_apart a_sign after_factor (or_fails (is_a kinds.Plus) (is_a kinds.Minus) after_factor (is_a_fails kinds.Plus after_factor refl) (is_a_fails kinds.Minus after_factor refl))

terms_reads : {More : Type 0} → Reads More terms_at terms_at IsTerms IsTerms after_sum
unfolding terms_at
terms_reads =
    then_reads leading_reads
    (λ sign. then_reads factor_reads (λ factor. map_reads (λ others. term sign factor ∷ others) (many_reads a_sign term_after_reads term_after_starts signs_apart)) (λ factor. map_avoids (many_avoids term_after_starts signs_apart)))
    (λ sign. then_avoids (avoids_by (a_factor_fails after_leading refl refl) factor_starts))

terms_starts : Starts IsTerms a_sum
terms_starts = if_starts (starts_also (or_left (is_a kinds.Minus) a_factor) (then_starts (symbol_starts kinds.Minus))) (λ sign. starts_also (or_right (is_a kinds.Minus) a_factor) (then_starts factor_starts))

pub sum_reads : {More : Type 0} → Reads More sum_at sum_at IsSum IsSum after_sum
unfolding sum_at
sum_reads = with_place_reads terms_starts terms_reads

pub sum_starts : Starts IsSum a_sum
sum_starts = with_place_starts terms_starts

-- ---- initial values

signed_reads : {More : Type 0} → Reads More signed_at signed_at IsSigned IsSigned nothing
unfolding signed_at
signed_reads =
    then_reads leading_reads (λ sign. map_reads (λ (n : ℕ). (sign, n)) (one_reads value_of nothing value_some))
    (λ sign. then_avoids (avoids_by (is_a_fails (kinds.Number 0) after_leading refl) value_starts))

signed_starts : Starts IsSigned (or (is_a kinds.Minus) a_number)
signed_starts = if_starts (starts_also (or_left (is_a kinds.Minus) a_number) (then_starts (symbol_starts kinds.Minus))) (λ sign. starts_also (or_right (is_a kinds.Minus) a_number) (then_starts value_starts))

pub int_reads : {More : Type 0} → Reads More int_at int_at IsInt IsInt nothing
unfolding int_at
int_reads = map_reads (λ signed. record { sign = signed.value.0; number = signed.value.1; span = signed.place }) (with_place_reads signed_starts signed_reads)

-- ---- comparisons

pub comparison_reads : {More : Type 0} → Reads More comparison_at comparison_at IsComparison IsComparison after_sum
unfolding comparison_at
comparison_reads =
    then_reads sum_reads
    (λ left. next_reads (one_reads relation_of nothing relation_some) (λ relation. map_reads (λ right. Comparison left relation right) sum_reads))
    (λ left. then_avoids (one_avoids relation_of after_sum (λ token x e. relation_numbers token.kind x e)))

pub comparison_starts : Starts IsComparison a_sum
comparison_starts = then_starts sum_starts

-- a comparison doesn't begin with what fails at a name, a number and a '-'
pub a_sum_fails : (test : ℕ → Bool) → test (number_of kinds.Minus) ≡ false → test 0 ≡ false → test 1 ≡ false → (n : ℕ) → a_sum n ≡ true → test n ≡ false
a_sum_fails test at_minus at_name at_number = or_fails (is_a kinds.Minus) a_factor test (is_a_fails kinds.Minus test at_minus) (a_factor_fails test at_name at_number)

-- ---- the parts that loops read

pub term_after_shortens : Shortens term_after_at
term_after_shortens = shortens_by (term_after_reads {More = ⊥}).laws term_after_starts
