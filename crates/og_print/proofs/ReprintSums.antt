-- Printed sums and numbers are read as they were.
use Rattle.std.proofs.Common.{◌≡◌, ℕ, List, [], ◌∷◌, ◌++◌, map, Option, Some, None, option_map, refl, sym, ap, subst, ◌∙◌, inl, inr}
use Rattle.og_text.specs.declared.place.Span.{Span}
use Rattle.og_text.specs.declared.token.TokenKind.{TokenKind}
use Rattle.og_text.specs.declared.token.TokenKind.TheVariants as kinds
use Rattle.og_text.specs.declared.token.Token.{Token}
use Rattle.og_parse.specs.Language.{Placed, One}
use Rattle.og_parse.specs.declared.raw.RawName.{RawName}
use Rattle.og_parse.specs.declared.raw.RawInt.{RawInt}
use Rattle.og_parse.specs.declared.raw.Sign.{Sign}
use Rattle.og_parse.specs.declared.raw.Sign.TheVariants.{Plus, Minus}
use Rattle.og_parse.specs.declared.raw.Relation.{Relation}
use Rattle.og_parse.specs.declared.raw.Relation.TheVariants as relations
use Rattle.og_parse.specs.declared.raw.RawFactor.{RawFactor}
use Rattle.og_parse.specs.declared.raw.RawFactor.TheVariants.{Variable}
use Rattle.og_parse.specs.declared.raw.RawTerm.{RawTerm}
use Rattle.og_parse.specs.Trees.{Sum}
use Rattle.og_parse.specs.Words.{name_kind, name_of, number_kind, value_of, sign_kind, sign_of, relation_kind, relation_of}
use Rattle.og_parse.specs.Grammar.{IsLeading, IsFactor, product, term, IsTermAfter, IsTerms, IsSum, IsSigned, IsInt}
use Rattle.og_print.specs.Plain.{plain_name, plain_factor, plain_term, plain_sum, plain_int}
use Rattle.og_print.specs.Print.{sign_word, relation_word, leading_in, factor_in, later_terms_in, terms_in, alone}
use Rattle.og_print.proofs.Reprint.{IsGood, Prints, prints_same, prints_gives, prints_then, prints_last, prints_end, prints_one, prints_inl, prints_inr, prints_placed, prints_many, prints_if_symbol, good_one, behind_some}

-- ---- tokens with a value

name_from : (span : Span) (kind : TokenKind) (x : RawName) → name_kind span kind ≡ Some x → kind ≡ kinds.Name x.name
name_from span (kinds.Name n) x e = ap (λ (o : Option RawName). kinds.Name (name_or n o)) e where
  name_or : List ℕ → Option RawName → List ℕ
  name_or d None = d
  name_or d (Some y) = y.name
name_from span kind x e = absurd cc

pub prints_name : (x : RawName) (tokens : List Token) → One name_of x tokens → Prints (One name_of) plain_name tokens (kinds.Name x.name ∷ []) x
prints_name x tokens d =
    prints_one (kinds.Name x.name) x (λ (span : Span). let y : RawName = record { name = x.name; span = span } in y)
    (λ token e. ap (λ (k : TokenKind). name_kind token.span k) e) (λ span. refl)
    (good_one tokens d.0 (kinds.Name x.name) d.1 (name_from d.0.span d.0.kind x d.2))

number_from : (kind : TokenKind) (n : ℕ) → number_kind kind ≡ Some n → kind ≡ kinds.Number n
number_from (kinds.Number m) n e = let same : m ≡ n = cc in ap (λ (k : ℕ). kinds.Number k) same
number_from kind n e = absurd cc

pub prints_number : (n : ℕ) (tokens : List Token) → One value_of n tokens → Prints (One value_of) (λ k. k) tokens (kinds.Number n ∷ []) n
prints_number n tokens d =
    prints_one (kinds.Number n) n (λ (span : Span). n) (λ token e. ap number_kind e) (λ span. refl)
    (good_one tokens d.0 (kinds.Number n) d.1 (number_from d.0.kind n d.2))

sign_back : (s : Sign) → sign_kind (sign_word s) ≡ Some s
sign_back Plus = refl
sign_back Minus = refl

sign_good : (s : Sign) → IsGood (sign_word s)
sign_good Plus = tt
sign_good Minus = tt

prints_sign : (s : Sign) (tokens : List Token) → Prints (One sign_of) (λ z. z) tokens (sign_word s ∷ []) s
prints_sign s tokens = prints_one (sign_word s) s (λ (span : Span). s) (λ token e. ap sign_kind e ∙ sign_back s) (λ span. refl) (λ h. sign_good s)

relation_back : (r : Relation) → relation_kind (relation_word r) ≡ Some r
relation_back relations.LessEqual = refl
relation_back relations.Less = refl
relation_back relations.GreaterEqual = refl
relation_back relations.Greater = refl
relation_back relations.Equal = refl
relation_back relations.NotEqual = refl

relation_good : (r : Relation) → IsGood (relation_word r)
relation_good relations.LessEqual = tt
relation_good relations.Less = tt
relation_good relations.GreaterEqual = tt
relation_good relations.Greater = tt
relation_good relations.Equal = tt
relation_good relations.NotEqual = tt

pub prints_relation : (r : Relation) (tokens : List Token) → Prints (One relation_of) (λ z. z) tokens (relation_word r ∷ []) r
prints_relation r tokens = prints_one (relation_word r) r (λ (span : Span). r) (λ token e. ap relation_kind e ∙ relation_back r) (λ span. refl) (λ h. relation_good r)

pub prints_leading : (s : Sign) (tokens : List Token) → Prints IsLeading (λ z. z) tokens (leading_in alone s) s
prints_leading Plus tokens = prints_inr (prints_gives Plus Plus refl)
prints_leading Minus tokens = prints_inl (prints_end (λ at. Minus) kinds.Minus tt (λ at. refl))

-- ---- factors, terms, sums

star_printed : (n : ℕ) (o : Option RawName) → factor_in alone (product n o) ≡ kinds.Number n ∷ behind_some kinds.Star (λ x. kinds.Name x.name ∷ []) o
star_printed n None = refl
star_printed n (Some x) = refl

plain_product : (n : ℕ) (o : Option RawName) → plain_factor (product n o) ≡ product n (option_map plain_name o)
plain_product n None = refl
plain_product n (Some x) = refl

pub prints_factor : (f : RawFactor) (tokens : List Token) → IsFactor f tokens → Prints IsFactor plain_factor tokens (factor_in alone f) f
prints_factor f tokens (inl d) =
    prints_same (factor_in alone) f (Variable d.head) d.is_second.0
    (prints_inl (prints_last d (λ (x : RawName). Variable x) (kinds.Name d.head.name ∷ []) (prints_name d.head d.front d.is_first) (λ x e. ap (λ (y : RawName). Variable y) e)))
prints_factor f tokens (inr d) =
    let n = d.head in
    let star = d.is_second in
    let o = star.head in
    let printed = behind_some kinds.Star (λ (x : RawName). kinds.Name x.name ∷ []) in
    prints_same (factor_in alone) f (product n o) star.is_second.0
    (subst (λ (ks : List TokenKind). Prints IsFactor plain_factor tokens ks (product n o)) (sym (star_printed n o))
    (prints_inr (prints_then d (kinds.Number n ∷ []) (printed o) (prints_number n d.front d.is_first)
    (λ m e. prints_last star (λ (p : Option RawName). product m p) (printed o)
    (prints_if_symbol kinds.Star tt (One name_of) (One name_of) plain_name (λ x. kinds.Name x.name ∷ []) prints_name o star.front star.is_first)
    (λ p ep. plain_product m p ∙ ap (λ (k : ℕ). product k (option_map plain_name p)) e ∙ ap (λ (q : Option RawName). product n q) ep ∙ sym (plain_product n o))))))

abbrev term_printed : RawTerm → List TokenKind
term_printed t = sign_word t.sign ∷ factor_in alone t.factor

prints_term_after : (t : RawTerm) (tokens : List Token) → IsTermAfter t tokens → Prints IsTermAfter plain_term tokens (term_printed t) t
prints_term_after t tokens d =
    let s = d.head in
    let f = d.is_second.head in
    prints_same term_printed t (term s f) d.is_second.is_second.0
    (prints_then d (sign_word s ∷ []) (factor_in alone f) (prints_sign s d.front)
    (λ s' es. prints_last d.is_second (λ (g : RawFactor). term s' g) (factor_in alone f) (prints_factor f d.is_second.front d.is_second.is_first)
    (λ g eg. ap (λ (z : Sign). term z (plain_factor g)) es ∙ ap (λ (h : RawFactor). term s h) eg)))

pub prints_terms : (ts : List RawTerm) (tokens : List Token) → IsTerms ts tokens → Prints IsTerms (map plain_term) tokens (terms_in alone ts) ts
prints_terms ts tokens d =
    let s = d.head in
    let d1 = d.is_second in
    let f = d1.head in
    let d2 = d1.is_second in
    let others = d2.head in
    prints_same (terms_in alone) ts (term s f ∷ others) d2.is_second.0
    (prints_then d (leading_in alone s) (factor_in alone f ++ later_terms_in alone others) (prints_leading s d.front)
    (λ s' es. prints_then d1 (factor_in alone f) (later_terms_in alone others) (prints_factor f d1.front d1.is_first)
    (λ g eg. prints_last d2 (λ (us : List RawTerm). term s' g ∷ us) (later_terms_in alone others)
    (prints_many IsTermAfter IsTermAfter plain_term term_printed (later_terms_in alone) refl (λ x xs. refl) prints_term_after others d2.front d2.is_first)
    (λ us eu. ap (λ (z : Sign). term z (plain_factor g) ∷ map plain_term us) es ∙ ap (λ (h : RawFactor). term s h ∷ map plain_term us) eg ∙ ap (λ (vs : List RawTerm). term s (plain_factor f) ∷ vs) eu))))

pub prints_sum : (s : Sum) (tokens : List Token) → IsSum s tokens → Prints IsSum plain_sum tokens (terms_in alone s.value) s
prints_sum s tokens d = prints_placed s (prints_terms s.value tokens d.0)

-- ---- initial values

abbrev pub int_printed : RawInt → List TokenKind
int_printed i = leading_in alone i.sign ++ kinds.Number i.number ∷ []

abbrev signed_printed : Sign × ℕ → List TokenKind
signed_printed p = leading_in alone p.0 ++ kinds.Number p.1 ∷ []

prints_signed : (p : Sign × ℕ) (tokens : List Token) → IsSigned p tokens → Prints IsSigned (λ z. z) tokens (signed_printed p) p
prints_signed p tokens d =
    let s = d.head in
    let n = d.is_second.head in
    prints_same signed_printed p (s, n) d.is_second.is_second.0
    (prints_then d (leading_in alone s) (kinds.Number n ∷ []) (prints_leading s d.front)
    (λ s' es. prints_last d.is_second (λ (m : ℕ). (s', m)) (kinds.Number n ∷ []) (prints_number n d.is_second.front d.is_second.is_first)
    (λ m em. ap (λ (z : Sign). let q : Sign × ℕ = (z, m) in q) es ∙ ap (λ (k : ℕ). let q : Sign × ℕ = (s, k) in q) em)))

abbrev int_of : Placed (Sign × ℕ) → RawInt
int_of signed = record { sign = signed.value.0; number = signed.value.1; span = signed.place }

pub prints_int : (i : RawInt) (tokens : List Token) → IsInt i tokens → Prints IsInt plain_int tokens (int_printed i) i
prints_int i tokens d =
    prints_same int_printed i (int_of d.head) d.is_second.0
    (prints_last d int_of (signed_printed d.head.value) (prints_placed d.head (prints_signed d.head.value d.front d.is_first.0)) (λ p e. ap int_of e))
