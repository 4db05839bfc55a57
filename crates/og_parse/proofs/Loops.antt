-- Reading parts one after the other, as a loop does.
use Rattle.std.proofs.Common.{◌≡◌, ℕ, zero, suc, ◌≤◌, ◌<◌, Bool, true, cond, eqb, List, [], ◌∷◌, ◌++◌, length, Ok, Err, Option, Some, None, refl, sym, ap, ◌∙◌, append_assoc, arith, length-append}
use Rattle.std.proofs.lemmas.Bool.{false≢true}
use Rattle.og_text.specs.Kinds.{number_of}
use Rattle.og_text.specs.declared.token.TokenKind.{TokenKind}
use Rattle.og_text.specs.declared.token.Token.{Token}
use Rattle.og_text.specs.declared.place.Span.{Span}
use Rattle.og_parse.specs.Language.{Language}
use Rattle.og_parse.specs.Reading.{Outcome, Reader, ◌>>=◌, is_a, starts, symbol_at, some_at, many_at, after_at, taken, token_at}
use Rattle.og_parse.proofs.Languages.{Laws, Starts, ok_is, chosen_ok}

-- the rest is no longer; the rest is shorter
abbrev pub Onward : {X : Type 0} → Reader X → Type 0
Onward {X} read = (tokens : List Token) (x : X) (rest : List Token) → read tokens ≡ Ok (x, rest) → length rest ≤ length tokens

pub record Shortens {X : Type 0} (read : Reader X) : Type 0 where
  pub shortens : (tokens : List Token) (x : X) (rest : List Token) → read tokens ≡ Ok (x, rest) → length rest < length tokens

pub onward : {X : Type 0} {read : Reader X} {is : Language X} {longer : ℕ → Bool} → Laws read is longer → Onward read
onward laws tokens x rest e = let t = laws.takes tokens x rest e in omega (arith, ap length t.parts, length-append t.front rest)

-- what begins with a token is not empty
some_token : (test : ℕ → Bool) (front : List Token) → starts test (front ++ []) ≡ true → 1 ≤ length front
some_token test [] h = absurd (false≢true h)
some_token test (t ∷ ts) h = omega arith

pub shortens_by : {X : Type 0} {read : Reader X} {is : Language X} {longer : ℕ → Bool} {test : ℕ → Bool} → Laws read is longer → Starts is test → Shortens read
shortens_by {test = test} laws starts_is = record {
  shortens = λ tokens x rest e.
      let t = laws.takes tokens x rest e in
      omega (arith, ap length t.parts, length-append t.front rest, some_token test t.front (starts_is.starting x t.front [] t.is_read));
}

-- a symbol is a token
pub symbol_onward : (kind : TokenKind) (tokens : List Token) (span : Span) (rest : List Token) → symbol_at kind tokens ≡ Ok (span, rest) → length rest < length tokens
symbol_onward kind [] span rest e = absurd cc
symbol_onward kind (t ∷ ts) span rest e = let c = chosen_ok (eqb (number_of t.kind) (number_of kind)) t ts span rest e in omega (arith, ap length c.2)

pub token_onward : {X : Type 0} (value : Token → Option X) → Onward (token_at value)
token_onward value [] x rest e = absurd cc
token_onward {X} value (t ∷ ts) x rest e = go (value t) e where
  go : (o : Option X) → taken o (t ∷ ts) ts ≡ Ok (x, rest) → length rest ≤ length (t ∷ ts)
  go None e = absurd cc
  go (Some y) e = let same : ts ≡ rest = ap (λ (p : X × List Token). p.1) (ok_is (y, ts) (x, rest) e) in omega (arith, ap length same)

-- ---- a loop over parts that begin with a token that passes

module _ {X : Type 0} (test : ℕ → Bool) {each : Reader X} (on : Shortens each) where
  abbrev some : ℕ → Reader (List X)
  some n = some_at test each n

  none_left : (n : ℕ) (tokens : List Token) → length tokens ≤ 0 → some n tokens ≡ Ok ([], tokens)
  none_left zero tokens h = refl
  none_left (suc n) [] h = refl
  none_left (suc n) (t ∷ ts) h = absurd (omega arith)

  abbrev more : ℕ → Outcome X → Outcome (List X)
  more n r = r >>= λ x. some n x.1 >>= λ xs. Ok (x.0 ∷ xs.0, xs.1)

  alike : (n m : ℕ) → ((tokens : List Token) → length tokens ≤ n → length tokens ≤ m → some n tokens ≡ some m tokens) → (tokens : List Token) → length tokens ≤ suc n → length tokens ≤ suc m → (r : Outcome X) → each tokens ≡ r → more n r ≡ more m r
  alike n m below tokens a b (Ok x) e = let fewer = on.shortens tokens x.0 x.1 e in ap (λ (r : Outcome (List X)). r >>= λ xs. Ok (x.0 ∷ xs.0, xs.1)) (below x.1 (omega arith) (omega arith))
  alike n m below tokens a b (Err d) e = refl

  -- any number that is large enough gives the same
  same_fuel : (n m : ℕ) (tokens : List Token) → length tokens ≤ n → length tokens ≤ m → some n tokens ≡ some m tokens
  same_fuel zero m tokens h k = sym (none_left m tokens h)
  same_fuel (suc n) zero tokens h k = none_left (suc n) tokens k
  same_fuel (suc n) (suc m) tokens h k = ap (λ (r : Outcome (List X)). cond (starts test tokens) r (Ok ([], tokens))) (alike n m (λ ts a b. same_fuel n m ts a b) tokens h k (each tokens) refl)

  starts_long : (tokens : List Token) → starts test tokens ≡ true → (n : ℕ) × (length tokens ≡ suc n)
  starts_long [] h = absurd (false≢true h)
  starts_long (t ∷ ts) h = (length ts, refl)

  -- one part more
  pub many_step : (tokens : List Token) (x : X) (mid : List Token) → starts test tokens ≡ true → each tokens ≡ Ok (x, mid) → many_at test each tokens ≡ (many_at test each mid >>= λ xs. Ok (x ∷ xs.0, xs.1))
  many_step tokens x mid goes at_each =
      let long = starts_long tokens goes in
      let less = on.shortens tokens x mid at_each in
      ap (λ (n : ℕ). some n tokens) long.1 ∙ rw (goes, at_each) (ap (λ (r : Outcome (List X)). r >>= λ xs. Ok (x ∷ xs.0, xs.1)) (same_fuel long.0 (length mid) mid (omega (arith, long.1)) (omega arith)))

-- the part read before, and the part still to be read
abbrev pub with_front : {X : Type 0} → List X → Outcome (List X) → Outcome (List X)
with_front front read = read >>= λ x. Ok (front ++ x.0, x.1)

regroup : {X : Type 0} (front : List X) (x : X) (r : Outcome (List X)) → with_front front (r >>= λ xs. Ok (x ∷ xs.0, xs.1)) ≡ with_front (front ++ x ∷ []) r
regroup {X} front x (Ok xs) = ap (λ (all : List X). Ok (all, xs.1)) (simp append_assoc)
regroup front x (Err d) = refl

pub goes_on : {X : Type 0} (test : ℕ → Bool) {each : Reader X} → Shortens each → (front : List X) (tokens : List Token) (x : X) (mid : List Token) (total : Outcome (List X)) → starts test tokens ≡ true → each tokens ≡ Ok (x, mid)
    → with_front front (many_at test each tokens) ≡ total → with_front (front ++ x ∷ []) (many_at test each mid) ≡ total
goes_on test {each} on front tokens x mid total goes at_each so_far = sym (regroup front x (many_at test each mid)) ∙ ap (with_front front) (sym (many_step test on tokens x mid goes at_each)) ∙ so_far

-- ---- parts after a symbol

pub after_shortens : {X : Type 0} (kind : TokenKind) {each : Reader X} → Onward each → Shortens (after_at kind each)
after_shortens {X} kind {each} on = record { shortens = λ tokens x rest e. go tokens x rest (symbol_at kind tokens) refl e } where
  go : (tokens : List Token) (x : X) (rest : List Token) (r : Outcome Span) → symbol_at kind tokens ≡ r → (r >>= λ at. each at.1) ≡ Ok (x, rest) → length rest < length tokens
  go tokens x rest (Ok s) at_symbol e = let fewer = symbol_onward kind tokens s.0 s.1 at_symbol in let less = on s.1 x rest e in omega arith
  go tokens x rest (Err d) at_symbol e = absurd cc

pub goes_on_after : {X : Type 0} (kind : TokenKind) {each : Reader X} → Onward each → (front : List X) (tokens : List Token) (s : Span × List Token) (x : X) (mid : List Token) (total : Outcome (List X)) → starts (is_a kind) tokens ≡ true → symbol_at kind tokens ≡ Ok s → each s.1 ≡ Ok (x, mid)
    → with_front front (many_at (is_a kind) (after_at kind each) tokens) ≡ total → with_front (front ++ x ∷ []) (many_at (is_a kind) (after_at kind each) mid) ≡ total
goes_on_after kind {each} on front tokens s x mid total goes at_symbol at_each so_far =
    goes_on (is_a kind) (after_shortens kind on) front tokens x mid total goes (rw at_symbol at_each) so_far
