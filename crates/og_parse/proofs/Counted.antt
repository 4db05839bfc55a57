-- The statements of a tree are those that its tokens begin.
use Rattle.std.proofs.Common.{◌≡◌, ℕ, ◌+◌, Bool, true, false, ◌&&◌, List, [], ◌∷◌, ◌++◌, Option, Some, None, refl, sym, ap, subst, ◌∙◌, arith, inl, inr}
use Rattle.std.specs.Prelude.{sum_by}
use Rattle.std.proofs.lemmas.List.Sums.{sum_by-cons}
use Rattle.og_text.specs.Kinds.{number_of}
use Rattle.og_text.specs.declared.token.TokenKind.{TokenKind}
use Rattle.og_text.specs.declared.token.TokenKind.TheVariants as kinds
use Rattle.og_text.specs.declared.token.Token.{Token}
use Rattle.og_parse.specs.Language.{Language, Symbol, One, Gives, Never, Then, Either, Allowed, Many, After, Separated, IfSymbol, WithPlace}
use Rattle.og_parse.specs.Reading.{is_a}
use Rattle.og_parse.specs.Limits.{begins_statement, closes_note, statements_after}
use Rattle.og_parse.specs.Reads.{a_stmt}
use Rattle.og_parse.proofs.Counts.{closed_after, one_if, statements-append}

-- ---- what a part of the tokens counts, entered after a '}' or not, and whether it leaves after one

pub record Counts {X : Type 0} (enter : Bool) (before : ℕ) (is : Language X) (count : X → ℕ) (leave : Bool) : Type 0 where
  pub counts : (x : X) (front : List Token) → is x front → before + statements_after enter front ≡ count x
  pub leaves : (x : X) (front : List Token) → is x front → closed_after enter front ≡ leave

closed-append : (closed : Bool) (front rest : List Token) → closed_after closed (front ++ rest) ≡ closed_after (closed_after closed front) rest
closed-append closed [] rest = refl
closed-append closed (t ∷ front) rest = closed-append (closes_note t.kind) front rest

module _ {A B : Type 0} {is : Language A} {is' : A → Language B} {enter mid leave : Bool} {before : ℕ} {f : A → ℕ} {count : B → ℕ} where
  pub then_counts : Counts enter 0 is f mid → ((a : A) → Counts mid (before + f a) (is' a) count leave) → Counts enter before (Then is is') count leave
  then_counts first second = record {
    counts = λ x front h.
        let one = first.counts h.head h.front h.is_first in
        let two = (second h.head).counts x h.back h.is_second in
        let whole : statements_after enter front ≡ statements_after enter h.front + statements_after mid h.back = ap (statements_after enter) h.parts ∙ statements-append enter h.front h.back ∙ ap (λ (c : Bool). statements_after enter h.front + statements_after c h.back) (first.leaves h.head h.front h.is_first) in
        omega (arith, one, two, whole);
    leaves = λ x front h. ap (closed_after enter) h.parts ∙ closed-append enter h.front h.back ∙ ap (λ (c : Bool). closed_after c h.back) (first.leaves h.head h.front h.is_first) ∙ (second h.head).leaves x h.back h.is_second;
  }

pub gives_counts : {X : Type 0} {count : X → ℕ} (enter : Bool) (before : ℕ) (x : X) → before ≡ count x → Counts enter before (Gives x) count enter
gives_counts {X} {count} enter before x e = record {
  counts = λ y front h. ap (λ (z : List Token). before + statements_after enter z) h.1 ∙ (let zero_more : before + 0 ≡ before = omega arith in zero_more) ∙ e ∙ ap count (sym h.0);
  leaves = λ y front h. ap (closed_after enter) h.1;
}

-- ---- one token: what it begins and closes goes by the number of its kind

pub begins_number : (kind : TokenKind) → begins_statement kind ≡ a_stmt (number_of kind)
begins_number (kinds.Name bytes) = refl
begins_number kinds.Skip = refl
begins_number kinds.If = refl
begins_number kinds.While = refl
begins_number kinds.Await = refl
begins_number kind = refl

closes_number : (kind : TokenKind) → closes_note kind ≡ is_a kinds.CloseBrace (number_of kind)
closes_number kinds.CloseBrace = refl
closes_number kind = refl

pub symbol_counts : (enter : Bool) (kind : TokenKind) → Counts enter 0 (Symbol kind) (λ at. one_if (enter && begins_statement kind)) (closes_note kind)
symbol_counts enter kind = record {
  counts = λ at front h.
      let one : statements_after enter (h.0 ∷ []) ≡ one_if (enter && begins_statement h.0.kind) = (let plus : one_if (enter && begins_statement h.0.kind) + 0 ≡ one_if (enter && begins_statement h.0.kind) = omega arith in plus) in
      let whole : statements_after enter front ≡ one_if (enter && begins_statement kind) = ap (statements_after enter) h.1 ∙ one ∙ ap (λ (b : Bool). one_if (enter && b)) (ap begins_statement h.2) in
      omega (arith, whole);
  leaves = λ at front h. ap (closed_after enter) h.1 ∙ ap closes_note h.2;
}

-- a token with a value, whose kind begins a statement or not, and closes nothing
pub one_counts : {X : Type 0} (enter : Bool) (value : Token → Option X) (begins : Bool) → ((token : Token) (x : X) → value token ≡ Some x → (begins_statement token.kind ≡ begins) × (closes_note token.kind ≡ false)) → Counts enter 0 (One value) (λ x. one_if (enter && begins)) false
one_counts enter value begins facts = record {
  counts = λ x front h.
      let one : statements_after enter (h.0 ∷ []) ≡ one_if (enter && begins_statement h.0.kind) = (let plus : one_if (enter && begins_statement h.0.kind) + 0 ≡ one_if (enter && begins_statement h.0.kind) = omega arith in plus) in
      let whole : statements_after enter front ≡ one_if (enter && begins) = ap (statements_after enter) h.1 ∙ one ∙ ap (λ (b : Bool). one_if (enter && b)) (facts h.0 x h.2).0 in
      omega (arith, whole);
  leaves = λ x front h. ap (closed_after enter) h.1 ∙ (facts h.0 x h.2).1;
}

-- ---- ways, and several parts

pub either_counts : {X : Type 0} {enter leave : Bool} {before : ℕ} {count : X → ℕ} {one other : Language X} → Counts enter before one count leave → Counts enter before other count leave → Counts enter before (Either one other) count leave
either_counts a b = record {
  counts = λ x front h. elim h [ inl p ↦ a.counts x front p | inr q ↦ b.counts x front q ];
  leaves = λ x front h. elim h [ inl p ↦ a.leaves x front p | inr q ↦ b.leaves x front q ];
}

pub never_counts : {X : Type 0} {enter leave : Bool} {before : ℕ} {count : X → ℕ} → Counts {X = X} enter before Never count leave
never_counts = record { counts = λ x front h. absurd h; leaves = λ x front h. absurd h }

pub allowed_counts : {X : Type 0} {enter leave : Bool} {before : ℕ} {count : X → ℕ} {is : Language X} (allowed : Bool) → Counts enter before is count leave → Counts enter before (Allowed allowed is) count leave
allowed_counts true a = a
allowed_counts false a = never_counts

-- counted from another number on
pub counts_after : {X : Type 0} {enter leave : Bool} {count count' : X → ℕ} {is : Language X} (before : ℕ) → Counts enter 0 is count leave → ((x : X) → before + count x ≡ count' x) → Counts enter before is count' leave
counts_after {X} {enter} {leave} {count} {count'} before a more = record {
  counts = λ x front h. let one = a.counts x front h in let two = more x in omega arith;
  leaves = a.leaves;
}

pub with_place_counts : {X : Type 0} {enter leave : Bool} {count : X → ℕ} {is : Language X} → Counts enter 0 is count leave → Counts enter 0 (WithPlace is) (λ x. count x.value) leave
with_place_counts a = record { counts = λ x front h. a.counts x.value front h.0; leaves = λ x front h. a.leaves x.value front h.0 }

-- parts of which each leaves as it was entered
pub many_counts : {X : Type 0} {flag : Bool} {count : X → ℕ} {is : Language X} → Counts flag 0 is count flag → Counts flag 0 (Many is) (sum_by count) flag
many_counts {X} {flag} {count} {is} each = record { counts = counted; leaves = left } where
  left : (xs : List X) (front : List Token) → Many is xs front → closed_after flag front ≡ flag
  left [] front h = ap (closed_after flag) h
  left (x ∷ xs) front h = ap (closed_after flag) h.2 ∙ closed-append flag h.0 h.1 ∙ ap (λ (c : Bool). closed_after c h.1) (each.leaves x h.0 h.3) ∙ left xs h.1 h.4

  counted : (xs : List X) (front : List Token) → Many is xs front → 0 + statements_after flag front ≡ sum_by count xs
  counted [] front h = ap (λ (z : List Token). 0 + statements_after flag z) h
  counted (x ∷ xs) front h =
      let one = each.counts x h.0 h.3 in
      let rest = counted xs h.1 h.4 in
      let whole : statements_after flag front ≡ statements_after flag h.0 + statements_after flag h.1 = ap (statements_after flag) h.2 ∙ statements-append flag h.0 h.1 ∙ ap (λ (c : Bool). statements_after flag h.0 + statements_after c h.1) (each.leaves x h.0 h.3) in
      omega (arith, one, rest, whole, sum_by-cons count x xs)

-- no statement, and no '}' at the end
abbrev pub Quiet : {X : Type 0} → Language X → Type 0
Quiet is = Counts false 0 is (λ x. 0) false

pub quiet_symbol : (kind : TokenKind) → closes_note kind ≡ false → Counts false 0 (Symbol kind) (λ at. 0) false
quiet_symbol kind closes = subst (λ (c : Bool). Counts false 0 (Symbol kind) (λ at. 0) c) closes (symbol_counts false kind)

pub quiet_then : {A B : Type 0} {is : Language A} {is' : A → Language B} → Quiet is → ((a : A) → Quiet (is' a)) → Quiet (Then is is')
quiet_then first second = then_counts first second

pub quiet_gives : {X : Type 0} (x : X) → Quiet (Gives x)
quiet_gives x = gives_counts false 0 x refl

pub quiet_many : {X : Type 0} {is : Language X} → Quiet is → Quiet (Many is)
quiet_many {X} {is} each = record { counts = λ xs front h. (many_counts each).counts xs front h ∙ none xs; leaves = (many_counts each).leaves } where
  none : (xs : List X) → sum_by (λ x. 0) xs ≡ 0
  none [] = refl
  none (x ∷ xs) = let rest = none xs in omega (arith, sum_by-cons (λ (y : X). 0) x xs)

pub quiet_after : {X : Type 0} {is : Language X} (kind : TokenKind) → closes_note kind ≡ false → Quiet is → Quiet (After kind is)
quiet_after kind closes each = quiet_then (quiet_symbol kind closes) (λ at. each)

pub quiet_separated : {X : Type 0} {is : Language X} (kind : TokenKind) → closes_note kind ≡ false → Quiet is → Quiet (Separated kind is)
quiet_separated kind closes each = quiet_then each (λ first. quiet_then (quiet_many (quiet_after kind closes each)) (λ others. quiet_gives (first ∷ others)))

pub quiet_if_symbol : {X : Type 0} {is : Language X} (kind : TokenKind) → closes_note kind ≡ false → Quiet is → Quiet (IfSymbol kind is)
quiet_if_symbol {X} kind closes each = let nobody : Option X = None in either_counts (quiet_then (quiet_after kind closes each) (λ x. quiet_gives (Some x))) (quiet_gives nobody)

-- a symbol that begins no statement
pub plain_symbol : (enter : Bool) (kind : TokenKind) → begins_statement kind ≡ false → Counts enter 0 (Symbol kind) (λ at. 0) (closes_note kind)
plain_symbol enter kind plain = record {
  counts = λ at front h. (symbol_counts enter kind).counts at front h ∙ ap (λ (b : Bool). one_if (enter && b)) plain ∙ none enter;
  leaves = (symbol_counts enter kind).leaves;
} where
  none : (e : Bool) → one_if (e && false) ≡ 0
  none true = refl
  none false = refl

-- a part that may be missing, and what follows it
pub either_then_counts : {A B : Type 0} {enter leave : Bool} {before : ℕ} {count : B → ℕ} {one other : Language A} {is' : A → Language B} → Counts enter before (Then one is') count leave → Counts enter before (Then other is') count leave → Counts enter before (Then (Either one other) is') count leave
either_then_counts a b = record {
  counts = λ x front h. elim h.is_first [
    | inl p ↦ a.counts x front (record { head = h.head; front = h.front; back = h.back; parts = h.parts; is_first = p; is_second = h.is_second })
    | inr q ↦ b.counts x front (record { head = h.head; front = h.front; back = h.back; parts = h.parts; is_first = q; is_second = h.is_second })
  ];
  leaves = λ x front h. elim h.is_first [
    | inl p ↦ a.leaves x front (record { head = h.head; front = h.front; back = h.back; parts = h.parts; is_first = p; is_second = h.is_second })
    | inr q ↦ b.leaves x front (record { head = h.head; front = h.front; back = h.back; parts = h.parts; is_first = q; is_second = h.is_second })
  ];
}
