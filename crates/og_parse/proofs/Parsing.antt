-- From the first fault of a reading to the first fault of the tokens, with the limit on statements.
use Rattle.std.proofs.Common.{◌≡◌, ℕ, ◌≤◌, false, List, [], ◌∷◌, ◌++◌, Ok, Err, refl, sym, ap, subst, ◌∙◌, append_assoc, arith, inl, inr, ◌⊎◌}
use Rattle.std.proofs.lemmas.List.{append-nil}
use Rattle.og_text.specs.declared.place.Span.{Span}
use Rattle.og_text.specs.declared.token.Token.{Token}
use Rattle.og_parse.specs.declared.refusal.FaultKind.{FaultKind}
use Rattle.og_parse.specs.declared.refusal.FaultKind.TheVariants as stops
use Rattle.og_parse.specs.declared.refusal.Refusal.{Refusal}
use Rattle.og_parse.specs.declared.refusal.Refusal.TheVariants as refusals
use Rattle.og_parse.specs.Fronts.{Begins}
use Rattle.og_parse.specs.Gives.{Fails}
use Rattle.og_parse.specs.Reading.{whole_at}
use Rattle.og_parse.proofs.AllTokens.{IsStop, whole_found, whole_fault, one_value}
use Rattle.og_parse.specs.declared.raw.Raw.{Raw}
use Rattle.og_parse.specs.declared.fault.ParseFault.TheVariants as faults
use Rattle.og_parse.specs.declared.fault.ParseError.TheVariants as errors
use Rattle.og_parse.specs.Trees.{Outline}
use Rattle.og_parse.specs.TreeOf.{tree_of}
use Rattle.og_parse.specs.Grammar.{IsOutline}
use Rattle.og_parse.specs.Reads.{outline_at}
use Rattle.og_parse.specs.Faults.{IsAnyOutline, place_of, ComesTo, IsFault}
use Rattle.og_parse.specs.Parsed.{IsParsed}
use Rattle.og_parse.specs.Limits.{statement_count}
use Rattle.og_parse.specs.Answers.{error_of, IsExcess, expected_at, too_deep_at, excess_error}
use Rattle.og_parse.proofs.OutlineLaws.{outline_reads}
use Rattle.og_parse.proofs.Counts.{statements-append}

-- the first tokens have no more statements than all
few_front : (front rest : List Token) → statement_count front ≤ statement_count (front ++ rest)
few_front front rest = omega (arith, statements-append false front rest)

pub few_in : (n : ℕ) (tokens front rest : List Token) → tokens ≡ front ++ rest → statement_count tokens ≤ n → statement_count front ≤ n
few_in n tokens front rest parts few = omega (arith, few_front front rest, ap statement_count parts)

pub next_parts : (tokens front after : List Token) (t : Token) → tokens ≡ front ++ t ∷ after → tokens ≡ (front ++ t ∷ []) ++ after
next_parts tokens front after t parts = parts ∙ sym (append_assoc front (t ∷ []) after)

-- what begins with more begins with less
pub begins_less : (n : ℕ) (front more : List Token) → Begins (IsOutline n) (front ++ more) → Begins (IsOutline n) front
begins_less n front more b = record { value = b.value; tail = more ++ b.tail; whole = subst (λ (z : List Token). IsOutline n b.value z) (append_assoc front more b.tail) b.whole }

pub begins_any : (n : ℕ) (front : List Token) → Begins (IsOutline n) front → Begins IsAnyOutline front
begins_any n front b = record { value = b.value; tail = b.tail; whole = (n, b.whole) }

-- ---- where the statements are few enough

abbrev Stop : ℕ → List Token → FaultKind → List Token → Type 0
Stop n tokens kind rest = IsStop outline_at IsOutline outline_reads n tokens kind rest

module _ (n limit : ℕ) (tokens : List Token) (few : statement_count tokens ≤ limit) where
  comes_to : (kind : FaultKind) (rest : List Token) (s : Stop n tokens kind rest) → ComesTo n limit tokens s.front rest
  comes_to kind rest s = record { parts = s.parts; begins = s.begins; few = few_in limit tokens s.front rest s.parts few }

  expected_within : (rest : List Token) → Stop n tokens stops.Expected rest → IsFault n limit tokens (faults.Expected (place_of tokens rest))
  expected_within [] s =
      let all : s.front ≡ tokens = sym (s.parts ∙ append-nil s.front) in
      (s.front, [], comes_to stops.Expected [] s, s.stops, ap (λ (z : List Token). place_of z []) (sym all))
  expected_within (t ∷ after) s = (s.front, t ∷ after, comes_to stops.Expected (t ∷ after) s, s.stops, refl)

  too_deep_within : (rest : List Token) → Stop n tokens stops.TooDeep rest → IsFault n limit tokens (faults.TooDeep (place_of tokens rest))
  too_deep_within [] s = absurd s.stops
  too_deep_within (t ∷ after) s =
      (s.front, after, t, comes_to stops.TooDeep (t ∷ after) s, record { goes_on = s.stops.0; too_deep = s.stops.1 }, few_in limit tokens (s.front ++ t ∷ []) after (next_parts tokens s.front after t s.parts) few, refl)

  pub answer_err : (e : Refusal) (left : List Token) → Fails e left (whole_at (outline_at n) tokens) → IsParsed n limit tokens (Err (error_of tokens e left))
  answer_err refusals.Memory left fails = tt
  answer_err (refusals.Fault stops.Expected) left fails = expected_within left (whole_fault outline_at IsOutline outline_reads n tokens stops.Expected left fails)
  answer_err (refusals.Fault stops.TooDeep) left fails = too_deep_within left (whole_fault outline_at IsOutline outline_reads n tokens stops.TooDeep left fails)

  pub answer_ok : (raw : Raw) (rest : List Token) → whole_at (outline_at n) tokens ≡ Ok (tree_of raw, rest) → IsParsed n limit tokens (Ok raw)
  answer_ok raw rest e = (whole_found outline_at IsOutline outline_reads n (tree_of raw) tokens rest e, few)

-- ---- where the last token begins a statement too many

-- a list with one token at its end, cut before some token
snoc_cut : (a : List Token) (x : Token) (b : List Token) (y : Token) (r : List Token) → a ++ x ∷ [] ≡ b ++ y ∷ r → ((r ≡ []) × (b ≡ a) × (y ≡ x)) ⊎ ((r' : List Token) × (r ≡ r' ++ x ∷ []) × (a ≡ b ++ y ∷ r'))
snoc_cut [] x [] y r e = let same : x ≡ y = cc in let none : [] ≡ r = cc in inl (sym none, refl, sym same)
snoc_cut (z ∷ a) x [] y r e = let same : z ≡ y = cc in let rest : a ++ x ∷ [] ≡ r = cc in inr (a, sym rest, ap (λ (t : Token). t ∷ a) same)
snoc_cut [] x (w ∷ b) y r e = let none : [] ≡ b ++ y ∷ r = cc in absurd (not_nil b y r none) where
  not_nil : (b : List Token) (y : Token) (r : List Token) → [] ≡ b ++ y ∷ r → ⊥
  not_nil [] y r e = cc
  not_nil (w ∷ b) y r e = cc
snoc_cut (z ∷ a) x (w ∷ b) y r e =
    let same : z ≡ w = cc in
    let inner : a ++ x ∷ [] ≡ b ++ y ∷ r = cc in
    elim (snoc_cut a x b y r inner) [
      | inl h ↦ inl (h.0, ap (λ (l : List Token). w ∷ l) h.1 ∙ ap (λ (t : Token). t ∷ a) (sym same), h.2)
      | inr h ↦ inr (h.0, h.1, ap (λ (t : Token). t ∷ a) same ∙ ap (λ (l : List Token). w ∷ l) h.2)
    ]

module _ (n limit : ℕ) (tokens front : List Token) (span : Span) (x : IsExcess limit tokens front span) where
  -- the tokens come to the statement, and it goes on
  too_many : Begins (IsOutline n) x.before → Begins IsAnyOutline (x.before ++ x.token ∷ []) → IsFault n limit tokens (faults.TooManyStatements span)
  too_many begins goes_on =
      (x.before, x.after, x.token, record { parts = x.parts; begins = begins; few = x.few }, record { goes_on = goes_on; too_many = x.too_many }, x.span_is)

  -- all up to the statement, with it, begin an outline within the levels
  too_many_whole : Begins (IsOutline n) front → IsFault n limit tokens (faults.TooManyStatements span)
  too_many_whole b =
      let here : Begins (IsOutline n) (x.before ++ x.token ∷ []) = subst (λ (z : List Token). Begins (IsOutline n) z) x.front_is b in
      too_many (begins_less n x.before (x.token ∷ []) here) (begins_any n (x.before ++ x.token ∷ []) here)

  record Cut (before : List Token) (t : Token) (r : List Token) : Type 0 where
    after : List Token
    parts : tokens ≡ before ++ t ∷ after
    few : statement_count before ≤ limit

  cut : (before : List Token) (t : Token) (r : List Token) → front ≡ before ++ t ∷ r → Cut before t r
  cut before t r parts = record {
    after = r ++ x.after;
    parts = x.parts ∙ sym (append_assoc x.before (x.token ∷ []) x.after) ∙ ap (λ (z : List Token). z ++ x.after) (sym x.front_is ∙ parts) ∙ append_assoc before (t ∷ r) x.after;
    few = elim (snoc_cut x.before x.token before t r (sym x.front_is ∙ parts)) [
      | inl h ↦ omega (arith, x.few, ap statement_count h.1)
      | inr h ↦ few_in limit x.before before (t ∷ h.0) h.2 x.few
    ];
  }

  expected_excess : (rest : List Token) → Stop n front stops.Expected rest → IsParsed n limit tokens (Err (expected_at rest span))
  expected_excess [] s = too_many_whole (subst (λ (z : List Token). Begins (IsOutline n) z) (sym (s.parts ∙ append-nil s.front)) s.begins)
  expected_excess (t ∷ r) s =
      let c = cut s.front t r s.parts in
      (s.front, t ∷ c.after, record { parts = c.parts; begins = s.begins; few = c.few }, s.stops, refl)

  too_deep_excess : (rest : List Token) → Stop n front stops.TooDeep rest → IsParsed n limit tokens (Err (too_deep_at rest span))
  too_deep_excess [] s = absurd s.stops
  too_deep_excess (t ∷ []) s =
      elim (snoc_cut x.before x.token s.front t [] (sym x.front_is ∙ s.parts)) [
        | inl h ↦ too_many (subst (λ (z : List Token). Begins (IsOutline n) z) h.1 s.begins) (subst (λ (z : List Token). Begins IsAnyOutline z) (ap (λ (z : List Token). z ++ t ∷ []) h.1 ∙ ap (λ (u : Token). x.before ++ u ∷ []) h.2) s.stops.0)
        | inr h ↦ absurd (never h.0 h.1)
      ]
    where
      never : (r : List Token) → [] ≡ r ++ x.token ∷ [] → ⊥
      never [] e = cc
      never (u ∷ r) e = cc
  too_deep_excess (t ∷ u ∷ r) s =
      let c = cut s.front t (u ∷ r) s.parts in
      elim (snoc_cut x.before x.token s.front t (u ∷ r) (sym x.front_is ∙ s.parts)) [
        | inl h ↦ absurd cc
        | inr h ↦ (
          s.front,
          c.after,
          t,
          record { parts = c.parts; begins = s.begins; few = c.few },
          record { goes_on = s.stops.0; too_deep = s.stops.1 },
          few_in limit x.before (s.front ++ t ∷ []) h.0 (next_parts x.before s.front h.0 t h.2) x.few,
          refl,
        )
      ]

  pub excess_err : (e : Refusal) (left : List Token) → Fails e left (whole_at (outline_at n) front) → IsParsed n limit tokens (Err (excess_error e left span))
  excess_err refusals.Memory left fails = tt
  excess_err (refusals.Fault stops.Expected) left fails = expected_excess left (whole_fault outline_at IsOutline outline_reads n front stops.Expected left fails)
  excess_err (refusals.Fault stops.TooDeep) left fails = too_deep_excess left (whole_fault outline_at IsOutline outline_reads n front stops.TooDeep left fails)

  pub excess_ok : (tree : Outline) (rest : List Token) → whole_at (outline_at n) front ≡ Ok (tree, rest) → IsParsed n limit tokens (Err (errors.Fault (faults.TooManyStatements span)))
  excess_ok tree rest e =
      let found = whole_found outline_at IsOutline outline_reads n tree front rest e in
      too_many_whole (record { value = tree; tail = []; whole = subst (λ (z : List Token). IsOutline n tree z) (sym (append-nil front)) found })

pub one_outline : (one other : Outline) (tokens : List Token) → IsAnyOutline one tokens → IsAnyOutline other tokens → one ≡ other
one_outline = one_value outline_at IsOutline outline_reads
