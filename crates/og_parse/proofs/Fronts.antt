-- What an answer of the parser says of the tokens that an outline begins with.
use Rattle.std.proofs.Common.{◌≡◌, ◌<◌, ◌≤◌, false, nat_eq, List, [], ◌∷◌, ◌++◌, sym, ap, ◌∙◌, arith, append_assoc, subst, inl, inr}
use Rattle.std.proofs.lemmas.List.{append-nil}
use Rattle.std.proofs.lemmas.List.Elements.{All-head, All-tail}
use Rattle.std.specs.Prelude.{All}
use Rattle.std.specs.Bool.{MatchBool}
use Rattle.std.proofs.lemmas.Bool.Decides.{eqb_tells}
use Rattle.og_text.specs.declared.token.Token.{Token}
use Rattle.og_text.specs.declared.place.Span.{Span}
use Rattle.og_parse.specs.Language.{Language}
use Rattle.og_parse.specs.Fronts.{Begins}
use Rattle.og_parse.specs.declared.fault.ParseFault.{ParseFault}
use Rattle.og_parse.specs.declared.fault.ParseFault.TheVariants as faults
use Rattle.og_parse.specs.Trees.{Outline}
use Rattle.og_parse.specs.Grammar.{IsOutline}
use Rattle.og_parse.specs.Limits.{level_limit, statement_limit, statement_count}
use Rattle.og_parse.specs.Faults.{IsAnyOutline, IsFault}
use Rattle.og_parse.proofs.Counts.{statements-append}
use Rattle.og_parse.specs.Expected.{IsFront, HoldsBytes, is_at_end}

-- ---- fronts of fronts

shorter : {X : Type 0} {is : Language X} (front back : List Token) → Begins is (front ++ back) → Begins is front
shorter {X} {is} front back b = record { value = b.value; tail = back ++ b.tail; whole = subst (is b.value) (append_assoc front back b.tail) b.whole }

widened : (tokens : List Token) → Begins (IsOutline level_limit) tokens → Begins IsAnyOutline tokens
widened tokens b = record { value = b.value; tail = b.tail; whole = (level_limit, b.whole) }

fewer : (front back : List Token) → statement_count front ≤ statement_count (front ++ back)
fewer front back = omega (arith, statements-append false front back)

one_more : (before after : List Token) (token : Token) → before ++ token ∷ after ≡ (before ++ token ∷ []) ++ after
one_more before after token = sym (append_assoc before (token ∷ []) after)

-- ---- the answers

pub whole_front : (tokens : List Token) (outline : Outline) → IsOutline level_limit outline tokens → statement_count tokens ≤ statement_limit → IsFront tokens
whole_front tokens outline is few =
    let same : tokens ++ [] ≡ tokens = append-nil tokens in
    record { begins = record { value = outline; tail = []; whole = subst (IsOutline level_limit outline) (sym same) is }; few = few }

-- a token among others that all hold bytes holds some
holds_among : (before after : List Token) (token : Token) → All HoldsBytes (before ++ token ∷ after) → token.span.start < token.span.end
holds_among [] after token all = All-head HoldsBytes token after all
holds_among (t ∷ before) after token all = holds_among before after token (All-tail HoldsBytes t (before ++ token ∷ after) all)

-- where no outline goes on, the fault stands at a token, and a place without bytes is the end
front_by : (tokens : List Token) (span : Span) → All HoldsBytes tokens → IsFault level_limit statement_limit tokens (faults.Expected span) → span.start ≡ span.end → IsFront tokens
front_by tokens span all (before, [], comes, nowhere, at) empty =
    let same : tokens ≡ before = comes.parts ∙ append-nil before in
    subst IsFront (sym same) (record { begins = comes.begins; few = comes.few })
front_by tokens span all (before, token ∷ after, comes, nowhere, at) empty =
    let some : token.span.start < token.span.end = holds_among before after token (subst (All HoldsBytes) comes.parts all) in
    let starts : span.start ≡ token.span.start = ap (λ (s : Span). s.start) at in
    let ends : span.end ≡ token.span.end = ap (λ (s : Span). s.end) at in
    absurd (omega arith)

not_front_by : (tokens : List Token) (span : Span) → IsFault level_limit statement_limit tokens (faults.Expected span) → (span.start ≡ span.end → ⊥) → IsFront tokens → ⊥
not_front_by tokens span (before, [], comes, nowhere, at) filled front =
    filled (ap (λ (s : Span). s.start) at ∙ sym (ap (λ (s : Span). s.end) at))
not_front_by tokens span (before, token ∷ after, comes, nowhere, at) filled front =
    let parts : tokens ≡ (before ++ token ∷ []) ++ after = comes.parts ∙ one_more before after token in
    nowhere (widened (before ++ token ∷ []) (shorter (before ++ token ∷ []) after (subst (Begins (IsOutline level_limit)) parts front.begins)))

not_front_deep : (tokens : List Token) (span : Span) → IsFault level_limit statement_limit tokens (faults.TooDeep span) → IsFront tokens → ⊥
not_front_deep tokens span (before, after, token, comes, deep, few, at) front =
    let parts : tokens ≡ (before ++ token ∷ []) ++ after = comes.parts ∙ one_more before after token in
    deep.too_deep (shorter (before ++ token ∷ []) after (subst (Begins (IsOutline level_limit)) parts front.begins))

not_front_many : (tokens : List Token) (span : Span) → IsFault level_limit statement_limit tokens (faults.TooManyStatements span) → IsFront tokens → ⊥
not_front_many tokens span (before, after, token, comes, many, at) front =
    let parts : tokens ≡ (before ++ token ∷ []) ++ after = comes.parts ∙ one_more before after token in
    let more : statement_count (before ++ token ∷ []) ≤ statement_count ((before ++ token ∷ []) ++ after) = fewer (before ++ token ∷ []) after in
    let all : statement_count tokens ≡ statement_count ((before ++ token ∷ []) ++ after) = ap statement_count parts in
    let too_many : statement_limit < statement_count (before ++ token ∷ []) = many.too_many in
    let few : statement_count tokens ≤ statement_limit = front.few in
    absurd (omega arith)

-- ---- the answer of the test

by_places : (tokens : List Token) (span : Span) → All HoldsBytes tokens → IsFault level_limit statement_limit tokens (faults.Expected span) → MatchBool (nat_eq span.start span.end) (IsFront tokens) (IsFront tokens → ⊥)
by_places tokens span all fault = elim (eqb_tells span.start span.end) [
  | inl w ↦ rw w.0 (front_by tokens span all fault w.1)
  | inr w ↦ rw w.0 (not_front_by tokens span fault w.1)
]

pub by_fault : (tokens : List Token) (fault : ParseFault) → All HoldsBytes tokens → IsFault level_limit statement_limit tokens fault → MatchBool (is_at_end fault) (IsFront tokens) (IsFront tokens → ⊥)
by_fault tokens (faults.Expected span) all fault = by_places tokens span all fault
by_fault tokens (faults.TooDeep span) all fault = not_front_deep tokens span fault
by_fault tokens (faults.TooManyStatements span) all fault = not_front_many tokens span fault
