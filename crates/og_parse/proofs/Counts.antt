-- Counting statements from the left.
use Rattle.std.proofs.Common.{◌≡◌, ℕ, suc, ◌+◌, ◌<◌, ◌≤◌, Bool, true, false, cond, ◌&&◌, List, [], ◌∷◌, ◌++◌, length, take, drop, get_or, ◌-◌, refl, sym, ap, ◌∙◌, arith, append_assoc}
use Rattle.std.proofs.lemmas.List.{take_more, take-append-drop}
use Rattle.og_text.specs.declared.token.Token.{Token}
use Rattle.og_parse.specs.Faults.{last_end, end_place, place_of}
use Rattle.og_parse.specs.Limits.{begins_statement, closes_note, statements_after, statement_count}
use Rattle.og_parse.specs.Answers.{IsExcess}

-- whether the last token closes an assertion
abbrev pub closed_after : Bool → List Token → Bool
closed_after closed [] = closed
closed_after closed (token ∷ tokens) = closed_after (closes_note token.kind) tokens

-- one for a statement
abbrev pub one_if : Bool → ℕ
one_if b = cond b 1 0

pub statements-append : (closed : Bool) (front rest : List Token) → statements_after closed (front ++ rest) ≡ statements_after closed front + statements_after (closed_after closed front) rest
statements-append closed [] rest = omega arith
statements-append closed (t ∷ front) rest =
    omega (arith, statements-append (closes_note t.kind) front rest)

pub closed-push : (closed : Bool) (front : List Token) (t : Token) → closed_after closed (front ++ t ∷ []) ≡ closes_note t.kind
closed-push closed [] t = refl
closed-push closed (u ∷ front) t = closed-push (closes_note u.kind) front t

pub statements-push : (front : List Token) (t : Token) → statement_count (front ++ t ∷ []) ≡ statement_count front + one_if (closed_after false front && begins_statement t.kind)
statements-push front t = omega (arith, statements-append false front (t ∷ []))

pub record SoFar (limit : ℕ) (front : List Token) (count : ℕ) (closed : Bool) : Type 0 where
  pub counted : statement_count front ≡ count
  pub last : closed_after false front ≡ closed
  pub few : count ≤ limit

-- ---- one token more

-- the tokens up to one, with it
pub up_to : (tokens : List Token) (i : ℕ) (x : Token) → i < length tokens → x ≡ get_or tokens i x → take (i + 1) tokens ≡ take i tokens ++ x ∷ []
up_to tokens i x lt is = take_more tokens i x lt ∙ ap (λ (t : Token). take i tokens ++ t ∷ []) (sym is)

pub around : (tokens : List Token) (i : ℕ) (x : Token) → i < length tokens → x ≡ get_or tokens i x → tokens ≡ take i tokens ++ x ∷ drop (i + 1) tokens
around tokens i x lt is = sym (take-append-drop (i + 1) tokens) ∙ ap (λ (z : List Token). z ++ drop (i + 1) tokens) (up_to tokens i x lt is) ∙ append_assoc (take i tokens) (x ∷ []) (drop (i + 1) tokens)

pub so_far_next : (limit : ℕ) (tokens : List Token) (i : ℕ) (x : Token) (count next : ℕ) (closed : Bool) → i < length tokens → x ≡ get_or tokens i x → SoFar limit (take i tokens) count closed → next ≡ count + one_if (closed && begins_statement x.kind) → next ≤ limit
    → SoFar limit (take (i + 1) tokens) next (closes_note x.kind)
so_far_next limit tokens i x count next closed lt is s next_is few = rw (up_to tokens i x lt is) (record {
  counted = statements-push (take i tokens) x ∙ rw (s.counted, s.last) (sym next_is);
  last = closed-push false (take i tokens) x;
  few = few;
})

pub excess_found : (limit : ℕ) (tokens : List Token) (i : ℕ) (x : Token) (count : ℕ) (closed : Bool) → i < length tokens → x ≡ get_or tokens i x → SoFar limit (take i tokens) count closed → count ≡ limit → (closed && begins_statement x.kind) ≡ true
    → IsExcess limit tokens (take (i + 1) tokens) x.span
excess_found limit tokens i x count closed lt is s full begins =
    let more : statement_count (take i tokens ++ x ∷ []) ≡ count + 1 = statements-push (take i tokens) x ∙ rw (s.counted, s.last, begins) refl in
    record {
      before = take i tokens;
      token = x;
      after = drop (i + 1) tokens;
      parts = around tokens i x lt is;
      front_is = up_to tokens i x lt is;
      span_is = refl;
      few = rw (s.counted, full) (omega arith);
      too_many = omega (arith, more, full);
    }

-- ---- the last token

pub last_is : (tokens : List Token) (d : Token) → 1 ≤ length tokens → last_end tokens ≡ (get_or tokens (length tokens - 1) d).span.end
last_is [] d h = absurd (omega arith)
last_is (t ∷ []) d h = refl
last_is (t ∷ u ∷ tokens) d h =
    let step : suc (length (u ∷ tokens) - 1) ≡ length (t ∷ u ∷ tokens) - 1 = omega arith in
    last_is (u ∷ tokens) d (omega arith) ∙ ap (λ (n : ℕ). (get_or (t ∷ u ∷ tokens) n d).span.end) step

pub place_left : (tokens rest : List Token) (last : Token) → length rest < 1 → 1 ≤ length tokens → last ≡ get_or tokens (length tokens - 1) last → end_place last.span.end ≡ place_of tokens rest
place_left tokens [] last none some is = ap (λ (n : ℕ). end_place n) (ap (λ (t : Token). t.span.end) is ∙ sym (last_is tokens last some))
place_left tokens (t ∷ rest) last none some is = absurd (omega arith)
