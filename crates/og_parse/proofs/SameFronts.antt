-- Tokens of the same kinds begin outlines alike.
use Rattle.std.proofs.Common.{◌≡◌, ℕ, ◌+◌, ◌≤◌, Bool, false, ◌==◌, ◌||◌, ◌&&◌, cond, List, [], ◌∷◌, ◌++◌, refl, sym, ap, ap₂, ◌∙◌, subst}
use Rattle.og_text.specs.Kinds.{number_of}
use Rattle.og_text.specs.declared.token.TokenKind.{TokenKind}
use Rattle.og_text.specs.declared.token.TokenKind.TheVariants as kinds
use Rattle.og_text.specs.declared.token.Token.{Token}
use Rattle.og_parse.specs.Grammar.{IsOutline}
use Rattle.og_parse.specs.Limits.{level_limit, statement_limit, begins_statement, closes_note, statements_after}
use Rattle.og_parse.specs.Expected.{IsFront, AreAlike}
use Rattle.og_parse.proofs.SameKinds.{Alike}
use Rattle.og_parse.proofs.SameGrammar.{outline_alike}

itself : (t : List Token) → AreAlike t t
itself [] = tt
itself (token ∷ t) = (refl, itself t)

longer : (t u rest : List Token) → AreAlike t u → AreAlike (t ++ rest) (u ++ rest)
longer [] [] rest same = itself rest
longer [] (v ∷ u) rest same = absurd same
longer (w ∷ t) [] rest same = absurd same
longer (w ∷ t) (v ∷ u) rest same = (same.0, longer t u rest same.1)

begin_number : ℕ → Bool
begin_number n = (n == 0) || ((n == 14) || ((n == 10) || ((n == 12) || (n == 6))))

begins_by : (kind : TokenKind) → begins_statement kind ≡ begin_number (number_of kind)
unfolding begin_number
begins_by (kinds.Name bytes) = refl
begins_by kind = refl

closes_by : (kind : TokenKind) → closes_note kind ≡ (number_of kind == 35)
closes_by kinds.CloseBrace = refl
closes_by kind = refl

begins_same : (a b : TokenKind) → number_of a ≡ number_of b → begins_statement a ≡ begins_statement b
begins_same a b same = begins_by a ∙ ap begin_number same ∙ sym (begins_by b)

closes_same : (a b : TokenKind) → number_of a ≡ number_of b → closes_note a ≡ closes_note b
closes_same a b same = closes_by a ∙ ap (λ (n : ℕ). n == 35) same ∙ sym (closes_by b)

counted : (closed : Bool) (t u : List Token) → AreAlike t u → statements_after closed t ≡ statements_after closed u
counted closed [] [] same = refl
counted closed [] (v ∷ u) same = absurd same
counted closed (w ∷ t) [] same = absurd same
counted closed (w ∷ t) (v ∷ u) same =
    ap₂ (λ (b : Bool) (n : ℕ). cond (closed && b) 1 0 + n) (begins_same w.kind v.kind same.0)
    (ap (λ (c : Bool). statements_after c t) (closes_same w.kind v.kind same.0) ∙ counted (closes_note v.kind) t u same.1)

pub front_alike : (t u : List Token) → AreAlike t u → IsFront t → IsFront u
front_alike t u same front =
    let b = front.begins in
    let l : Alike (λ (i : Unit {0}). IsOutline level_limit) = outline_alike level_limit in
    let other = l.like tt tt b.value (t ++ b.tail) (u ++ b.tail) (longer t u b.tail same) b.whole in
    record {
      begins = record { value = other.0; tail = b.tail; whole = other.1 };
      few = subst (λ (n : ℕ). n ≤ statement_limit) (counted false t u same) front.few;
    }
