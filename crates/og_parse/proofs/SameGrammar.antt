-- Each part of the grammar is alike over tokens of the same kinds.
use Rattle.std.proofs.Common.{◌≡◌, ℕ, zero, suc, Bool, true, false, ◌==◌, ◌||◌, [], ◌∷◌, Some, unwrap_or, refl, sym, ap, ◌∙◌}
use Rattle.og_text.specs.Kinds.{number_of}
use Rattle.og_text.specs.declared.place.Span.{Span}
use Rattle.og_text.specs.declared.token.TokenKind.{TokenKind}
use Rattle.og_text.specs.declared.token.TokenKind.TheVariants as kinds
use Rattle.og_parse.specs.Language.{Language, One}
use Rattle.og_parse.specs.declared.raw.RawName.{RawName}
use Rattle.og_parse.specs.declared.raw.Sign.{Sign}
use Rattle.og_parse.specs.declared.raw.Sign.TheVariants.{Plus, Minus}
use Rattle.og_parse.specs.declared.raw.Relation.{Relation}
use Rattle.og_parse.specs.declared.raw.Relation.TheVariants as relations
use Rattle.og_parse.specs.declared.raw.RawFactor.TheVariants.{Variable}
use Rattle.og_parse.specs.Trees.{Comparison, Negation, Implication, Truth, Falsity, Assertion, Skip, Assign, Simple, Await, While, Stmt, Seq, choice, sequence, conjunction, disjunction}
use Rattle.og_parse.specs.Words.{name_kind, name_of, number_kind, value_of, sign_kind, sign_of, relation_kind, relation_of}
use Rattle.og_parse.specs.Grammar.{IsLeading, product, IsFactor, term, IsTermAfter, IsSum, IsInt, IsComparison, Openings, IsUnitWith, IsDisjunctionWith, IsAssertionWith, openings, IsAssertion, IsNote, IsBasic, IsBody, IsAwait, IsBlock, IsIf, IsWhile, IsStepWith, IsSeqWith, compounds, IsSeq, IsAux, IsListed, IsMain, IsOutline}
use Rattle.og_parse.proofs.Productions.{IsRestOfBlock}
use Rattle.og_parse.proofs.SameKinds.{Alike, gives_alike, symbol_alike, one_alike, then_alike, either_alike, never_alike, allowed_alike, many_alike, with_place_alike, map_alike, separated_alike, if_symbol_alike}

-- ---- tokens with a value

name_tells : (span : Span) (kind : TokenKind) (x : RawName) → name_kind span kind ≡ Some x → (number_of kind == 0) ≡ true
name_tells span (kinds.Name bytes) x e = refl
name_tells span kind x e = absurd cc

name_told : (span : Span) (kind : TokenKind) → (number_of kind == 0) ≡ true → (y : RawName) × (name_kind span kind ≡ Some y)
name_told span (kinds.Name bytes) e = (record { name = bytes; span = span }, refl)
name_told span kind e = absurd cc

number_tells : (kind : TokenKind) (x : ℕ) → number_kind kind ≡ Some x → (number_of kind == 1) ≡ true
number_tells (kinds.Number n) x e = refl
number_tells kind x e = absurd cc

number_told : (kind : TokenKind) → (number_of kind == 1) ≡ true → (y : ℕ) × (number_kind kind ≡ Some y)
number_told (kinds.Number n) e = (n, refl)
number_told kind e = absurd cc

is_sign : ℕ → Bool
is_sign n = (n == 28) || (n == 29)

sign_tells : (kind : TokenKind) (x : Sign) → sign_kind kind ≡ Some x → is_sign (number_of kind) ≡ true
unfolding is_sign
sign_tells kinds.Plus x e = refl
sign_tells kinds.Minus x e = refl
sign_tells kind x e = absurd cc

sign_told : (kind : TokenKind) → is_sign (number_of kind) ≡ true → (y : Sign) × (sign_kind kind ≡ Some y)
unfolding is_sign
sign_told kinds.Plus e = (Plus, refl)
sign_told kinds.Minus e = (Minus, refl)
sign_told kind e = absurd cc

is_relation : ℕ → Bool
is_relation n = (n == 22) || ((n == 23) || ((n == 24) || ((n == 25) || ((n == 26) || (n == 27)))))

relation_tells : (kind : TokenKind) (x : Relation) → relation_kind kind ≡ Some x → is_relation (number_of kind) ≡ true
unfolding is_relation
relation_tells kinds.LessEqual x e = refl
relation_tells kinds.Less x e = refl
relation_tells kinds.GreaterEqual x e = refl
relation_tells kinds.Greater x e = refl
relation_tells kinds.Equal x e = refl
relation_tells kinds.NotEqual x e = refl
relation_tells kind x e = absurd cc

relation_told : (kind : TokenKind) → is_relation (number_of kind) ≡ true → (y : Relation) × (relation_kind kind ≡ Some y)
unfolding is_relation
relation_told kinds.LessEqual e = (relations.LessEqual, refl)
relation_told kinds.Less e = (relations.Less, refl)
relation_told kinds.GreaterEqual e = (relations.GreaterEqual, refl)
relation_told kinds.Greater e = (relations.Greater, refl)
relation_told kinds.Equal e = (relations.Equal, refl)
relation_told kinds.NotEqual e = (relations.NotEqual, refl)
relation_told kind e = absurd cc

name_alike : {I : Type 0} → Alike (λ (i : I). One name_of)
name_alike = one_alike name_of (λ t u x same is. name_told u.span u.kind (ap (λ (n : ℕ). n == 0) (sym same) ∙ name_tells t.span t.kind x is))

value_alike : {I : Type 0} → Alike (λ (i : I). One value_of)
value_alike = one_alike value_of (λ t u x same is. number_told u.kind (ap (λ (n : ℕ). n == 1) (sym same) ∙ number_tells t.kind x is))

sign_alike : {I : Type 0} → Alike (λ (i : I). One sign_of)
sign_alike = one_alike sign_of (λ t u x same is. sign_told u.kind (ap is_sign (sym same) ∙ sign_tells t.kind x is))

relation_alike : {I : Type 0} → Alike (λ (i : I). One relation_of)
relation_alike = one_alike relation_of (λ t u x same is. relation_told u.kind (ap is_relation (sym same) ∙ relation_tells t.kind x is))

-- ---- sums

leading_alike : {I : Type 0} → Alike (λ (i : I). IsLeading)
leading_alike = either_alike (map_alike (λ at. Minus) (symbol_alike kinds.Minus refl)) (gives_alike (λ i. Plus))

factor_alike : {I : Type 0} → Alike (λ (i : I). IsFactor)
factor_alike = either_alike (map_alike Variable name_alike) (then_alike value_alike (then_alike (if_symbol_alike kinds.Star refl name_alike) (gives_alike (λ q. product q.0.1 q.1))))

term_after_alike : {I : Type 0} → Alike (λ (i : I). IsTermAfter)
term_after_alike = then_alike sign_alike (then_alike factor_alike (gives_alike (λ q. term q.0.1 q.1)))

sum_alike : {I : Type 0} → Alike (λ (i : I). IsSum)
sum_alike = with_place_alike (then_alike leading_alike (then_alike factor_alike (then_alike (many_alike term_after_alike) (gives_alike (λ q. term q.0.0.1 q.0.1 ∷ q.1)))))

int_alike : {I : Type 0} → Alike (λ (i : I). IsInt)
int_alike = then_alike (with_place_alike (then_alike leading_alike (then_alike value_alike (gives_alike (λ q. (q.0.1, q.1))))))
    (gives_alike (λ p. record { sign = p.1.value.0; number = p.1.value.1; span = p.1.place }))

comparison_alike : {I : Type 0} → Alike (λ (i : I). IsComparison)
comparison_alike = then_alike sum_alike (then_alike relation_alike (then_alike sum_alike (gives_alike (λ q. Comparison q.0.0.1 q.0.1 q.1))))

-- ---- assertions

-- what opens a level is alike
record Opens (o : Openings) : Type 1 where
  prefix : {I : Type 0} → Alike (λ (i : I). o.prefix)
  implied : {I : Type 0} → (f : I → Assertion) → Alike (λ (i : I). o.implied (f i))

unit_alike : {I : Type 0} (o : Openings) → Opens o → Alike (λ (i : I). IsUnitWith o)
unit_alike o h = either_alike h.prefix (either_alike (map_alike (λ w. Truth) (symbol_alike kinds.True refl)) (either_alike (map_alike (λ w. Falsity) (symbol_alike kinds.False refl)) comparison_alike))

disjunction_alike : {I : Type 0} (o : Openings) → Opens o → Alike (λ (i : I). IsDisjunctionWith o)
disjunction_alike o h = map_alike disjunction (separated_alike kinds.Or refl (map_alike conjunction (separated_alike kinds.And refl (unit_alike o h))))

assertion_with_alike : {I : Type 0} (o : Openings) → Opens o → Alike (λ (i : I). IsAssertionWith o)
assertion_with_alike o h = then_alike (disjunction_alike o h) (either_alike (h.implied (λ p. p.1)) (gives_alike (λ p. p.1)))

opens : (n : ℕ) → Opens (openings n)
opens zero = record { prefix = never_alike; implied = λ f. never_alike }
opens (suc n) = record {
  prefix = either_alike (then_alike (symbol_alike kinds.Not refl) (map_alike Negation (unit_alike (openings n) (opens n))))
      (then_alike (symbol_alike kinds.OpenParen refl) (then_alike (assertion_with_alike (openings n) (opens n)) (then_alike (symbol_alike kinds.CloseParen refl) (gives_alike (λ q. q.0.1)))));
  implied = λ f. then_alike (symbol_alike kinds.Arrow refl) (then_alike (assertion_with_alike (openings n) (opens n)) (gives_alike (λ q. Implication (f q.0.0) q.1)));
}

assertion_alike : {I : Type 0} (n : ℕ) → Alike (λ (i : I). IsAssertion n)
assertion_alike n = assertion_with_alike (openings n) (opens n)

note_alike : {I : Type 0} (n : ℕ) → Alike (λ (i : I). IsNote n)
note_alike n = with_place_alike (then_alike (symbol_alike kinds.OpenBrace refl) (then_alike (assertion_alike n) (then_alike (symbol_alike kinds.CloseBrace refl) (gives_alike (λ q. q.0.1)))))

-- ---- statements

basic_alike : {I : Type 0} → Alike (λ (i : I). IsBasic)
basic_alike = either_alike (map_alike (λ w. Skip) (symbol_alike kinds.Skip refl)) (then_alike name_alike (then_alike (symbol_alike kinds.Assign refl) (then_alike sum_alike (gives_alike (λ q. Assign q.0.0.1 q.1)))))

body_alike : {I : Type 0} → Alike (λ (i : I). IsBody)
body_alike = either_alike
    (then_alike (symbol_alike kinds.Begin refl) (then_alike (separated_alike kinds.Semicolon refl (with_place_alike basic_alike)) (then_alike (symbol_alike kinds.End refl) (gives_alike (λ q. q.0.1)))))
    (map_alike (λ e. e ∷ []) (with_place_alike basic_alike))

await_alike : {I : Type 0} (n : ℕ) → Alike (λ (i : I). IsAwait n)
await_alike n = then_alike (symbol_alike kinds.Await refl) (then_alike (assertion_alike n) (then_alike (symbol_alike kinds.Then refl) (then_alike body_alike (gives_alike (λ q. Await q.0.0.1 q.1)))))

rest_alike : {I : Type 0} (seq : Language Seq) → ((J : Type 0) → Alike (λ (j : J). seq)) → Alike (λ (i : I). IsRestOfBlock seq)
rest_alike seq s = then_alike (s _) (then_alike (symbol_alike kinds.End refl) (gives_alike (λ q. q.0.1)))

block_alike : {I : Type 0} (seq : Language Seq) → ((J : Type 0) → Alike (λ (j : J). seq)) → Alike (λ (i : I). IsBlock seq)
block_alike seq s = then_alike (symbol_alike kinds.Begin refl) (rest_alike seq s)

if_alike : {I : Type 0} (n : ℕ) (seq : Language Seq) → ((J : Type 0) → Alike (λ (j : J). seq)) → Alike (λ (i : I). IsIf n seq)
if_alike n seq s = then_alike (symbol_alike kinds.If refl) (then_alike (assertion_alike n) (then_alike (symbol_alike kinds.Then refl) (then_alike (block_alike seq s)
    (then_alike (if_symbol_alike kinds.Else refl (block_alike seq s)) (gives_alike (λ q. choice q.0.0.0.1 q.0.1 q.1))))))

while_alike : {I : Type 0} (n : ℕ) (seq : Language Seq) → ((J : Type 0) → Alike (λ (j : J). seq)) → Alike (λ (i : I). IsWhile n seq)
while_alike n seq s = then_alike (symbol_alike kinds.While refl) (then_alike (assertion_alike n) (then_alike (symbol_alike kinds.Do refl) (then_alike (block_alike seq s) (gives_alike (λ q. While q.0.0.1 q.1)))))

step_alike : {I : Type 0} (n : ℕ) (awaits : Bool) (compound : Language Stmt) → ((J : Type 0) → Alike (λ (j : J). compound)) → Alike (λ (i : I). IsStepWith n awaits compound)
step_alike n awaits compound c = then_alike (with_place_alike (either_alike (c _) (either_alike (allowed_alike awaits (await_alike n)) (map_alike Simple basic_alike))))
    (then_alike (note_alike n) (gives_alike (λ q. record { stmt = q.0.1; after = q.1 })))

seq_with_alike : {I : Type 0} (n : ℕ) (awaits : Bool) (compound : Language Stmt) → ((J : Type 0) → Alike (λ (j : J). compound)) → Alike (λ (i : I). IsSeqWith n awaits compound)
seq_with_alike n awaits compound c = then_alike (note_alike n) (then_alike (step_alike n awaits compound c) (then_alike (many_alike (step_alike n awaits compound c)) (gives_alike (λ q. sequence q.0.0.1 (q.0.1 ∷ q.1)))))

compounds_alike : (n : ℕ) (awaits : Bool) (k : ℕ) (I : Type 0) → Alike (λ (i : I). compounds n awaits k)
compounds_alike n awaits zero I = never_alike
compounds_alike n awaits (suc k) I =
    either_alike (if_alike n (IsSeqWith n awaits (compounds n awaits k)) (λ J. seq_with_alike n awaits (compounds n awaits k) (compounds_alike n awaits k)))
    (while_alike n (IsSeqWith n awaits (compounds n awaits k)) (λ J. seq_with_alike n awaits (compounds n awaits k) (compounds_alike n awaits k)))

seq_alike : {I : Type 0} (n : ℕ) (awaits : Bool) (k : ℕ) → Alike (λ (i : I). IsSeq n awaits k)
seq_alike n awaits k = seq_with_alike n awaits (compounds n awaits k) (compounds_alike n awaits k)

-- ---- outlines

listed_alike : {I X : Type 0} {F : I → Language X} → Alike F → Alike (λ (i : I). IsListed (F i))
listed_alike each = then_alike (separated_alike kinds.Comma refl each) (then_alike (symbol_alike kinds.Semicolon refl) (gives_alike (λ q. q.0.1)))

aux_alike : {I : Type 0} → Alike (λ (i : I). IsAux)
aux_alike = then_alike name_alike (then_alike (symbol_alike kinds.Equal refl) (then_alike int_alike (gives_alike (λ q. record { name = q.0.0.1; value = q.1 }))))

main_alike : {I : Type 0} (n : ℕ) → Alike (λ (i : I). IsMain n)
main_alike n = if_symbol_alike kinds.Begin refl (rest_alike (IsSeq n false n) (λ J. seq_alike n false n))

pub outline_alike : {I : Type 0} (n : ℕ) → Alike (λ (i : I). IsOutline n)
outline_alike n = then_alike (if_symbol_alike kinds.Var refl (listed_alike name_alike)) (then_alike (if_symbol_alike kinds.Aux refl (listed_alike aux_alike)) (then_alike (note_alike n) (then_alike (main_alike n)
    (then_alike (symbol_alike kinds.Cobegin refl) (then_alike (separated_alike kinds.Parallel refl (seq_alike n true n)) (then_alike (symbol_alike kinds.Coend refl) (then_alike (main_alike n) (then_alike (note_alike n)
    (gives_alike (λ q. record { vars = unwrap_or q.0.0.0.0.0.0.0.0.1 []; auxes = unwrap_or q.0.0.0.0.0.0.0.1 []; pre = q.0.0.0.0.0.0.1; prologue = q.0.0.0.0.0.1; cobegin = q.0.0.0.0.1; processes = q.0.0.0.1; epilogue = q.0.1; post = q.1 }))))))))))
