-- Tokens of the same kinds stand for outlines alike, whatever their names, their numbers and their places.
use Rattle.std.proofs.Common.{◌≡◌, Bool, true, false, List, [], ◌∷◌, ◌++◌, Option, Some, None, refl, sym, ap, ◌∙◌, inl, inr, subst}
use Rattle.og_text.specs.Kinds.{number_of}
use Rattle.og_text.specs.declared.token.TokenKind.{TokenKind}
use Rattle.og_text.specs.declared.token.Token.{Token}
use Rattle.og_parse.specs.Language.{Language, Symbol, One, Gives, Never, Then, Either, Allowed, Many, After, Separated, IfSymbol, WithPlace, first_place}
use Rattle.og_parse.proofs.Numbered.{is_symbol, same_kind}
use Rattle.og_parse.specs.Expected.{AreAlike}

-- whatever stands for tokens, in one place of a family, something stands for tokens of the same kinds in another
pub record Alike {I X : Type 0} (F : I → Language X) : Type 0 where
  pub like : (i j : I) (x : X) (t u : List Token) → AreAlike t u → F i x t → (y : X) × F j y u

-- tokens of the same kinds as two lists one after the other
record Cut (front back u : List Token) : Type 0 where
  left : List Token
  right : List Token
  parts : u ≡ left ++ right
  fronts : AreAlike front left
  backs : AreAlike back right

cut : (front back u : List Token) → AreAlike (front ++ back) u → Cut front back u
cut [] back u same = record { left = []; right = u; parts = refl; fronts = tt; backs = same }
cut (t ∷ front) back [] same = absurd same
cut (t ∷ front) back (v ∷ u) same =
    let c = cut front back u same.1 in
    record { left = v ∷ c.left; right = c.right; parts = ap (λ (w : List Token). v ∷ w) c.parts; fronts = (same.0, c.fronts); backs = c.backs }

none : (u : List Token) → AreAlike [] u → u ≡ []
none [] same = refl
none (v ∷ u) same = absurd same

record Single (token : Token) (u : List Token) : Type 0 where
  other : Token
  is : u ≡ other ∷ []
  same : number_of token.kind ≡ number_of other.kind

single : (token : Token) (u : List Token) → AreAlike (token ∷ []) u → Single token u
single token [] same = absurd same
single token (v ∷ u) same = record { other = v; is = ap (λ (w : List Token). v ∷ w) (none u same.1); same = same.0 }

along : (t t' u : List Token) → t ≡ t' → AreAlike t u → AreAlike t' u
along t t' u e same = subst (λ (w : List Token). AreAlike w u) e same

-- ---- the combinators

pub gives_alike : {I X : Type 0} (f : I → X) → Alike (λ (i : I). Gives (f i))
gives_alike f = record { like = λ i j x t u same is. (f j, (refl, none u (along t [] u is.1 same))) }

pub symbol_alike : {I : Type 0} (kind : TokenKind) → is_symbol kind ≡ true → Alike (λ (i : I). Symbol kind)
symbol_alike kind symbolic = record {
  like = λ i j x t u same is.
      let s = single is.0 u (along t (is.0 ∷ []) u is.1 same) in
      (s.other.span, (s.other, s.is, same_kind kind s.other.kind symbolic (sym s.same ∙ ap number_of is.2), refl));
}

pub one_alike : {I X : Type 0} (value : Token → Option X)
    → ((t u : Token) (x : X) → number_of t.kind ≡ number_of u.kind → value t ≡ Some x → (y : X) × (value u ≡ Some y)) → Alike (λ (i : I). One value)
one_alike value keeps = record {
  like = λ i j x t u same is.
      let s = single is.0 u (along t (is.0 ∷ []) u is.1 same) in
      let y = keeps is.0 s.other x s.same is.2 in
      (y.0, (s.other, s.is, y.1));
}

pub then_alike : {I A B : Type 0} {F : I → Language A} {G : I → A → Language B} → Alike F → Alike (λ (p : I × A). G p.0 p.1) → Alike (λ (i : I). Then (F i) (G i))
then_alike first second = record {
  like = λ i j x t u same w.
      let c = cut w.front w.back u (along t (w.front ++ w.back) u w.parts same) in
      let f = first.like i j w.head w.front c.left c.fronts w.is_first in
      let g = second.like (i, w.head) (j, f.0) x w.back c.right c.backs w.is_second in
      (g.0, record { head = f.0; front = c.left; back = c.right; parts = c.parts; is_first = f.1; is_second = g.1 });
}

pub either_alike : {I X : Type 0} {F G : I → Language X} → Alike F → Alike G → Alike (λ (i : I). Either (F i) (G i))
either_alike {I} {X} {F} {G} one other = record {
  like = λ i j x t u same is. elim is [
    | inl h ↦ let y = one.like i j x t u same h in (y.0, inl y.1)
    | inr h ↦ let y = other.like i j x t u same h in (y.0, inr y.1)
  ];
}

pub never_alike : {I X : Type 0} → Alike (λ (i : I). Never {X = X})
never_alike = record { like = λ i j x t u same is. absurd is }

pub allowed_alike : {I X : Type 0} {F : I → Language X} (allowed : Bool) → Alike F → Alike (λ (i : I). Allowed allowed (F i))
allowed_alike true is = record { like = λ i j x t u same h. is.like i j x t u same h }
allowed_alike false is = record { like = λ i j x t u same h. absurd h }

many_like : {I X : Type 0} {F : I → Language X} → Alike F → (i j : I) (xs : List X) (t u : List Token) → AreAlike t u → Many (F i) xs t → (ys : List X) × Many (F j) ys u
many_like each i j [] t u same is = ([], none u (along t [] u is same))
many_like each i j (x ∷ xs) t u same is =
    let c = cut is.0 is.1 u (along t (is.0 ++ is.1) u is.2 same) in
    let y = each.like i j x is.0 c.left c.fronts is.3 in
    let ys = many_like each i j xs is.1 c.right c.backs is.4 in
    (y.0 ∷ ys.0, (c.left, c.right, c.parts, y.1, ys.1))

pub many_alike : {I X : Type 0} {F : I → Language X} → Alike F → Alike (λ (i : I). Many (F i))
many_alike each = record { like = many_like each }

pub with_place_alike : {I X : Type 0} {F : I → Language X} → Alike F → Alike (λ (i : I). WithPlace (F i))
with_place_alike is = record {
  like = λ i j x t u same h.
      let y = is.like i j x.value t u same h.0 in
      (record { place = first_place u; value = y.0 }, (y.1, refl));
}

-- the same family over more
pub over : {I A X : Type 0} {F : I → Language X} → Alike F → Alike (λ (p : I × A). F p.0)
over is = record { like = λ p q x t u same h. is.like p.0 q.0 x t u same h }

pub map_alike : {I A B : Type 0} {F : I → Language A} (f : A → B) → Alike F → Alike (λ (i : I). Then (F i) (λ a. Gives (f a)))
map_alike f is = then_alike is (gives_alike (λ p. f p.1))

pub after_alike : {I X : Type 0} {F : I → Language X} (kind : TokenKind) → is_symbol kind ≡ true → Alike F → Alike (λ (i : I). After kind (F i))
after_alike kind symbolic is = then_alike (symbol_alike kind symbolic) (over is)

pub separated_alike : {I X : Type 0} {F : I → Language X} (kind : TokenKind) → is_symbol kind ≡ true → Alike F → Alike (λ (i : I). Separated kind (F i))
separated_alike kind symbolic is = then_alike is (then_alike (over (many_alike (after_alike kind symbolic is))) (gives_alike (λ q. q.0.1 ∷ q.1)))

pub if_symbol_alike : {I X : Type 0} {F : I → Language X} (kind : TokenKind) → is_symbol kind ≡ true → Alike F → Alike (λ (i : I). IfSymbol kind (F i))
if_symbol_alike kind symbolic is = either_alike (map_alike Some (after_alike kind symbolic is)) (gives_alike (λ i. None))
