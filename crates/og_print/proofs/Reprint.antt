-- Lexemes of the kinds that are printed for a value stand for it again, apart from the places.
use Rattle.std.proofs.Common.{◌≡◌, ◌≤◌, ◌^◌, List, [], ◌∷◌, ◌++◌, length, map, Option, Some, None, option_map, refl, sym, ap, subst, ◌∙◌, inl, inr, append-nil}
use Rattle.og_text.specs.Lexemes.{IsWord, keyword_of}
use Rattle.og_text.specs.Kinds.{number_of}
use Rattle.og_text.specs.declared.place.Span.{Span}
use Rattle.og_text.specs.declared.token.TokenKind.{TokenKind}
use Rattle.og_text.specs.declared.token.TokenKind.TheVariants as kinds
use Rattle.og_text.specs.declared.token.Token.{Token}
use Rattle.og_parse.specs.Language.{Language, Symbol, One, Gives, Then, Either, Many, After, Separated, IfSymbol, WithPlace, Placed, first_place}
use Rattle.og_print.specs.Plain.{nowhere, placed}
use Rattle.og_print.specs.Print.{kinds_of}

-- names and numbers as a source may have them
abbrev pub IsGood : TokenKind → Type 0
IsGood (kinds.Name n) = IsWord n × (keyword_of n ≡ None) × (length n ≤ 64)
IsGood (kinds.Number n) = n ≤ 2 ^ 63
IsGood kind = Unit {0}

abbrev pub AreGood : List TokenKind → Type 0
AreGood [] = Unit {0}
AreGood (k ∷ ks) = IsGood k × AreGood ks

pub AreGood-append : (ks js : List TokenKind) → AreGood ks → AreGood js → AreGood (ks ++ js)
AreGood-append [] js h g = g
AreGood-append (k ∷ ks) js h g = (h.0, AreGood-append ks js h.1 g)

good_front : (front back : List Token) → AreGood (kinds_of (front ++ back)) → AreGood (kinds_of front)
good_front [] back h = tt
good_front (t ∷ front) back h = (h.0, good_front front back h.1)

good_back : (front back : List Token) → AreGood (kinds_of (front ++ back)) → AreGood (kinds_of back)
good_back [] back h = h
good_back (t ∷ front) back h = good_back front back h.1

-- the tokens stand for a value that is the same, apart from the places
pub record Again {X : Type 0} (is : Language X) (plain : X → X) (x : X) (others : List Token) : Type 0 where
  pub value : X
  pub is_read : is value others
  pub same : plain value ≡ plain x

-- so do all lexemes of these kinds, which are good if those are that the value was read from
pub record Prints {X : Type 0} (is : Language X) (plain : X → X) (tokens : List Token) (printed : List TokenKind) (x : X) : Type 0 where
  pub again : (others : List Token) → kinds_of others ≡ printed → Again is plain x others
  pub good : AreGood (kinds_of tokens) → AreGood printed

pub prints_same : {X : Type 0} {is : Language X} {plain : X → X} {tokens : List Token} (printed : X → List TokenKind) (x y : X) → x ≡ y → Prints is plain tokens (printed y) y → Prints is plain tokens (printed x) x
prints_same {X} {is} {plain} {tokens} printed x y e p = subst (λ (z : X). Prints is plain tokens (printed z) z) (sym e) p

pub prints_as : {X : Type 0} {is : Language X} {plain : X → X} {tokens : List Token} {x : X} (p q : List TokenKind) → p ≡ q → Prints is plain tokens p x → Prints is plain tokens q x
prints_as {X} {is} {plain} {tokens} {x} p q e h = subst (λ (z : List TokenKind). Prints is plain tokens z x) e h

-- ---- parts of lists

pub record Split (others : List Token) (p q : List TokenKind) : Type 0 where
  pub front : List Token
  pub back : List Token
  pub parts : others ≡ front ++ back
  pub first : kinds_of front ≡ p
  pub second : kinds_of back ≡ q

head_of : TokenKind → List TokenKind → TokenKind
head_of d [] = d
head_of d (k ∷ ks) = k

pub split : (p q : List TokenKind) (others : List Token) → kinds_of others ≡ p ++ q → Split others p q
split [] q others e = record { front = []; back = others; parts = refl; first = refl; second = e }
split (k ∷ p) q [] e = absurd cc
split (k ∷ p) q (t ∷ others) e =
    let head : t.kind ≡ k = cc in
    let tail : kinds_of others ≡ p ++ q = cc in
    let s = split p q others tail in
    record { front = t ∷ s.front; back = s.back; parts = ap (λ (z : List Token). t ∷ z) s.parts; first = cc; second = s.second }

pub nothing : (others : List Token) → kinds_of others ≡ [] → others ≡ []
nothing [] e = refl
nothing (t ∷ others) e = absurd cc

pub record Single (others : List Token) (kind : TokenKind) : Type 0 where
  pub token : Token
  pub parts : others ≡ token ∷ []
  pub is_kind : token.kind ≡ kind

pub single : (kind : TokenKind) (others : List Token) → kinds_of others ≡ kind ∷ [] → Single others kind
single kind [] e = absurd cc
single kind (t ∷ []) e = record { token = t; parts = refl; is_kind = cc }
single kind (t ∷ u ∷ others) e = absurd cc

-- ---- combinators

pub prints_gives : {X : Type 0} {plain : X → X} {tokens : List Token} (x y : X) → plain y ≡ plain x → Prints (Gives y) plain tokens [] x
prints_gives x y e = record {
  again = λ others k. record { value = y; is_read = (refl, nothing others k); same = e };
  good = λ h. tt;
}

-- a part and then the rest, of what was read so
pub prints_then : {A B : Type 0} {first' : Language A} {second' : A → Language B} {v : B} {tokens : List Token} (d : Then first' second' v tokens)
    {first : Language A} {second : A → Language B} {plain_a : A → A} {plain : B → B} {a : A} {b : B} (p q : List TokenKind)
    → Prints first plain_a d.front p a → ((a' : A) → plain_a a' ≡ plain_a a → Prints (second a') plain d.back q b)
    → Prints (Then first second) plain tokens (p ++ q) b
prints_then {A} {B} {first'} {second'} {v} {tokens} d {first} {second} {plain_a} {plain} {a} {b} p q one two = record {
  again = λ others k.
      let s = split p q others k in
      let x = one.again s.front s.first in
      let y = (two x.value x.same).again s.back s.second in
      record { value = y.value; is_read = record { head = x.value; front = s.front; back = s.back; parts = s.parts; is_first = x.is_read; is_second = y.is_read }; same = y.same };
  good = λ h.
      let g = subst (λ (z : List Token). AreGood (kinds_of z)) d.parts h in
      AreGood-append p q (one.good (good_front d.front d.back g)) ((two a refl).good (good_back d.front d.back g));
}

-- the last part, from which the value is made
pub prints_last : {A B : Type 0} {first' : Language A} {second' : A → Language B} {v : B} {tokens : List Token} (d : Then first' second' v tokens)
    {first : Language A} {plain_a : A → A} {plain : B → B} {a : A} {b : B} (f : A → B) (p : List TokenKind)
    → Prints first plain_a d.front p a → ((a' : A) → plain_a a' ≡ plain_a a → plain (f a') ≡ plain b)
    → Prints (Then first (λ x. Gives (f x))) plain tokens p b
prints_last {A} {B} {first'} {second'} {v} {tokens} d {first} {plain_a} {plain} {a} {b} f p one same = record {
  again = λ others k.
      let x = one.again others k in
      record { value = f x.value; is_read = record { head = x.value; front = others; back = []; parts = sym (append-nil others); is_first = x.is_read; is_second = (refl, refl) }; same = same x.value x.same };
  good = λ h. one.good (good_front d.front d.back (subst (λ (z : List Token). AreGood (kinds_of z)) d.parts h));
}

abbrev pub plain_span : Span → Span
plain_span s = nowhere

pub prints_symbol : {tokens : List Token} {at : Span} (kind : TokenKind) → IsGood kind → Prints (Symbol kind) plain_span tokens (kind ∷ []) at
prints_symbol kind is = record {
  again = λ others k. let s = single kind others k in record { value = s.token.span; is_read = (s.token, s.parts, s.is_kind, refl); same = refl };
  good = λ h. (is, tt);
}

-- a keyword or symbol, and then the rest
pub prints_word : {A B : Type 0} {first' : Language A} {second' : A → Language B} {v : B} {tokens : List Token} (d : Then first' second' v tokens)
    {second : Span → Language B} {plain : B → B} {b : B} (kind : TokenKind) (q : List TokenKind) → IsGood kind
    → ((at : Span) → Prints (second at) plain d.back q b) → Prints (Then (Symbol kind) second) plain tokens (kind ∷ q) b
prints_word {A} {B} {first'} {second'} {v} {tokens} d {second} {plain} {b} kind q is rest = record {
  again = λ others k.
      let s = split (kind ∷ []) q others k in
      let t = single kind s.front s.first in
      let y = (rest t.token.span).again s.back s.second in
      record { value = y.value; is_read = record { head = t.token.span; front = s.front; back = s.back; parts = s.parts; is_first = (t.token, t.parts, t.is_kind, refl); is_second = y.is_read }; same = y.same };
  good = λ h.
      let g = subst (λ (z : List Token). AreGood (kinds_of z)) d.parts h in
      (is, (rest nowhere).good (good_back d.front d.back g));
}

-- a keyword or symbol after all else
pub prints_end : {B : Type 0} {plain : B → B} {tokens : List Token} {b : B} (f : Span → B) (kind : TokenKind) → IsGood kind → ((at : Span) → plain (f at) ≡ plain b) → Prints (Then (Symbol kind) (λ at. Gives (f at))) plain tokens (kind ∷ []) b
prints_end {B} {plain} {tokens} {b} f kind is same = record {
  again = λ others k.
      let t = single kind others k in
      record { value = f t.token.span; is_read = record { head = t.token.span; front = others; back = []; parts = sym (append-nil others); is_first = (t.token, t.parts, t.is_kind, refl); is_second = (refl, refl) }; same = same t.token.span };
  good = λ h. (is, tt);
}

pub prints_one : {X : Type 0} {value : Token → Option X} {plain : X → X} {tokens : List Token} (kind : TokenKind) (x : X) (made : Span → X)
    → ((token : Token) → token.kind ≡ kind → value token ≡ Some (made token.span)) → ((span : Span) → plain (made span) ≡ plain x) → (AreGood (kinds_of tokens) → IsGood kind)
    → Prints (One value) plain tokens (kind ∷ []) x
prints_one kind x made has same is = record {
  again = λ others k. let s = single kind others k in record { value = made s.token.span; is_read = (s.token, s.parts, has s.token s.is_kind); same = same s.token.span };
  good = λ h. (is h, tt);
}

pub prints_inl : {X : Type 0} {one other : Language X} {plain : X → X} {tokens : List Token} {p : List TokenKind} {x : X} → Prints one plain tokens p x → Prints (Either one other) plain tokens p x
prints_inl h = record {
  again = λ others k. let a = h.again others k in record { value = a.value; is_read = inl a.is_read; same = a.same };
  good = h.good;
}

pub prints_inr : {X : Type 0} {one other : Language X} {plain : X → X} {tokens : List Token} {p : List TokenKind} {x : X} → Prints other plain tokens p x → Prints (Either one other) plain tokens p x
prints_inr h = record {
  again = λ others k. let a = h.again others k in record { value = a.value; is_read = inr a.is_read; same = a.same };
  good = h.good;
}

pub prints_placed : {X : Type 0} {is : Language X} {plain : X → X} {tokens : List Token} {p : List TokenKind} (x : Placed X) → Prints is plain tokens p x.value → Prints (WithPlace is) (placed plain) tokens p x
prints_placed {X} {is} {plain} x h = record {
  again = λ others k.
      let a = h.again others k in
      record { value = record { place = first_place others; value = a.value }; is_read = (a.is_read, refl); same = ap (λ (v : X). let w : Placed X = record { place = nowhere; value = v } in w) a.same };
  good = h.good;
}

-- a list, part by part
module _ {X : Type 0} (each : Language X) (wide : Language X) (plain : X → X) (printed : X → List TokenKind) (all : List X → List TokenKind)
    (none : all [] ≡ []) (some : (x : X) (xs : List X) → all (x ∷ xs) ≡ printed x ++ all xs)
    (part : (x : X) (tokens : List Token) → each x tokens → Prints wide plain tokens (printed x) x) where
  again_many : (xs : List X) (tokens : List Token) → Many each xs tokens → (others : List Token) → kinds_of others ≡ all xs → Again (Many wide) (map plain) xs others
  again_many [] tokens d others k = record { value = []; is_read = nothing others (k ∙ none); same = refl }
  again_many (x ∷ xs) tokens d others k =
      let s = split (printed x) (all xs) others (k ∙ some x xs) in
      let a = (part x d.0 d.3).again s.front s.first in
      let b = again_many xs d.1 d.4 s.back s.second in
      let first = ap (λ (y : X). y ∷ map plain b.value) a.same in
      let rest = ap (λ (ys : List X). plain x ∷ ys) b.same in
      record { value = a.value ∷ b.value; is_read = (s.front, s.back, s.parts, a.is_read, b.is_read); same = first ∙ rest }

  good_many : (xs : List X) (tokens : List Token) → Many each xs tokens → AreGood (kinds_of tokens) → AreGood (all xs)
  good_many [] tokens d h = subst AreGood (sym none) tt
  good_many (x ∷ xs) tokens d h =
      let g = subst (λ (z : List Token). AreGood (kinds_of z)) d.2 h in
      subst AreGood (sym (some x xs)) (AreGood-append (printed x) (all xs) ((part x d.0 d.3).good (good_front d.0 d.1 g)) (good_many xs d.1 d.4 (good_back d.0 d.1 g)))

  pub prints_many : (xs : List X) (tokens : List Token) → Many each xs tokens → Prints (Many wide) (map plain) tokens (all xs) xs
  prints_many xs tokens d = record { again = again_many xs tokens d; good = good_many xs tokens d }

pub good_one : (tokens : List Token) (token : Token) (kind : TokenKind) → tokens ≡ token ∷ [] → token.kind ≡ kind → AreGood (kinds_of tokens) → IsGood kind
good_one tokens token kind parts is h =
    let g = subst (λ (z : List Token). AreGood (kinds_of z)) parts h in
    subst IsGood is g.0

pub front_good : {A B : Type 0} {first : Language A} {second : A → Language B} {v : B} {tokens : List Token} (d : Then first second v tokens) → AreGood (kinds_of tokens) → AreGood (kinds_of d.front)
front_good d h = good_front d.front d.back (subst (λ (z : List Token). AreGood (kinds_of z)) d.parts h)

pub back_good : {A B : Type 0} {first : Language A} {second : A → Language B} {v : B} {tokens : List Token} (d : Then first second v tokens) → AreGood (kinds_of tokens) → AreGood (kinds_of d.back)
back_good d h = good_back d.front d.back (subst (λ (z : List Token). AreGood (kinds_of z)) d.parts h)

-- what was read lies within more
pub prints_within : {X : Type 0} {is : Language X} {plain : X → X} {tokens inner : List Token} {p : List TokenKind} {x : X} → (AreGood (kinds_of tokens) → AreGood (kinds_of inner)) → Prints is plain inner p x → Prints is plain tokens p x
prints_within inside h = record { again = h.again; good = λ g. h.good (inside g) }

-- ---- parts with a symbol before them

abbrev pub behind : {X : Type 0} → TokenKind → (X → List TokenKind) → X → List TokenKind
behind kind printed x = kind ∷ printed x

abbrev pub behind_some : {X : Type 0} → TokenKind → (X → List TokenKind) → Option X → List TokenKind
behind_some kind printed None = []
behind_some kind printed (Some x) = kind ∷ printed x

-- a part, and then the rest of a list
abbrev pub joined : {X : Type 0} → (X → List TokenKind) → (List X → List TokenKind) → List X → List TokenKind
joined printed later [] = []
joined printed later (x ∷ xs) = printed x ++ later xs

module _ {X : Type 0} (kind : TokenKind) (is_good : IsGood kind) (each : Language X) (wide : Language X) (plain : X → X) (printed : X → List TokenKind)
    (part : (x : X) (tokens : List Token) → each x tokens → Prints wide plain tokens (printed x) x) where
  pub prints_after : (x : X) (tokens : List Token) → After kind each x tokens → Prints (After kind wide) plain tokens (behind kind printed x) x
  prints_after x tokens d = prints_word d kind (printed x) is_good (λ at. part x d.back d.is_second)

  pub prints_if_symbol : (o : Option X) (tokens : List Token) → IfSymbol kind each o tokens → Prints (IfSymbol kind wide) (option_map plain) tokens (behind_some kind printed o) o
  prints_if_symbol o tokens (inl d) =
      prints_same (behind_some kind printed) o (Some d.head) d.is_second.0
      (prints_inl (prints_last d (λ (x : X). Some x) (behind kind printed d.head) (prints_after d.head d.front d.is_first) (λ x e. ap (λ (y : X). Some y) e)))
  prints_if_symbol o tokens (inr d) = prints_same (behind_some kind printed) o None d.0 (prints_inr (prints_gives None None refl))

  module _ (later : List X → List TokenKind) (none : later [] ≡ []) (some : (x : X) (xs : List X) → later (x ∷ xs) ≡ behind kind printed x ++ later xs) where
    pub prints_separated : (xs : List X) (tokens : List Token) → Separated kind each xs tokens → Prints (Separated kind wide) (map plain) tokens (joined printed later xs) xs
    prints_separated xs tokens d =
        let rest = d.is_second in
        let others = rest.head in
        prints_same (joined printed later) xs (d.head ∷ others) rest.is_second.0
        (prints_then d (printed d.head) (later others) (part d.head d.front d.is_first)
        (λ x e. prints_last rest (λ (ys : List X). x ∷ ys) (later others)
        (prints_many (After kind each) (After kind wide) plain (behind kind printed) later none some prints_after others rest.front rest.is_first)
        (λ ys es. ap (λ (y : X). y ∷ map plain ys) e ∙ ap (λ (zs : List X). plain d.head ∷ zs) es)))
