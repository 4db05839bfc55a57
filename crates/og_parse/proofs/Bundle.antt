-- The laws of a reader with a limit and of the same reader with a wider one, together, part by part.
use Rattle.std.proofs.Common.{◌≡◌, ℕ, Bool, true, false, cond, ◌||◌, ◌&&◌, eqb, List, [], ◌∷◌, ◌++◌, Option, Some, None, Ok, Err, refl, sym, ap, subst, ◌∙◌, append_assoc, inl, inr}
use Rattle.std.proofs.lemmas.List.{append-nil}
use Rattle.std.proofs.lemmas.Bool.{eqb-true, false≢true}
use Rattle.og_text.specs.Kinds.{number_of}
use Rattle.og_text.specs.declared.token.TokenKind.{TokenKind}
use Rattle.og_text.specs.declared.token.Token.{Token}
use Rattle.og_text.specs.declared.place.Span.{Span}
use Rattle.og_parse.specs.declared.refusal.FaultKind.TheVariants.{Expected, TooDeep}
use Rattle.og_parse.specs.Language.{Language, Symbol, One, Gives, Never, Then, Either, Allowed, Many, After, Separated, IfSymbol, Placed, first_place, WithPlace}
use Rattle.og_parse.specs.Fronts.{Begins}
use Rattle.og_parse.specs.Reading.{Stop, Outcome, Reader, ◌>>=◌, nothing, is_a, or, starts, symbol_at, taken, token_at, shut_at, many_at, after_at, separated_at, if_symbol_at, with_place_at}
use Rattle.og_parse.proofs.Numbered.{is_symbol, same_kind}
use Rattle.og_parse.proofs.Languages.{Took, Stopped, Laws, Starts, Avoids, Apart, many_avoids, bind_ok, bind_err, ok_is, err_is, done, failed, stop_at, chosen, chosen_err, gives_laws, then_laws, map_laws, symbol_laws, symbol_some, either_laws, many_laws}
use Rattle.og_parse.proofs.More.{starts_nothing, starts_or, starts_neither, gives_avoids, apart, symbol_starts, then_starts, then_some, gives_some, map_some, many_some, one_laws, IsClosed, closed_laws}
use Rattle.og_parse.proofs.Wider.{GoesOn, Faults, Widens, plain_widens, gives_widens, map_widens, then_widens, either_widens, many_widens}

pub record Reads (More : Type 0) {X : Type 0} (read wide : Reader X) (is all : Language X) (longer : ℕ → Bool) : Type 0 where
  pub laws : Laws read is longer
  pub wide_laws : Laws wide all longer
  pub widens : Widens More read wide all
  pub some : Begins is []

-- ---- the language with the limit is a part of the other

pub inside : {More : Type 0} {X : Type 0} {read wide : Reader X} {is all : Language X} {longer : ℕ → Bool} → Reads More read wide is all longer → (x : X) (tokens : List Token) → is x tokens → all x tokens
inside {X} {read} {wide} {is} {all} r x tokens h =
    let e : read tokens ≡ Ok (x, []) = subst (λ (z : List Token). read z ≡ Ok (x, [])) (append-nil tokens) (r.laws.again x tokens [] h refl) in
    let t = r.wide_laws.takes tokens x [] (r.widens.keeps tokens (x, []) e) in
    subst (λ (z : List Token). all x z) (sym (t.parts ∙ append-nil t.front)) t.is_read

pub wide_some : {More : Type 0} {X : Type 0} {read wide : Reader X} {is all : Language X} {longer : ℕ → Bool} → Reads More read wide is all longer → Begins all []
wide_some r = record { value = r.some.value; tail = r.some.tail; whole = inside r r.some.value r.some.tail r.some.whole }

starts_inside : {More : Type 0} {X : Type 0} {read wide : Reader X} {is all : Language X} {longer test : ℕ → Bool} → Reads More read wide is all longer → Starts all test → Starts is test
starts_inside r s = record { starting = λ x front rest h. s.starting x front rest (inside r x front h) }

avoids_inside : {More : Type 0} {X : Type 0} {read wide : Reader X} {is all : Language X} {longer test after : ℕ → Bool} → Reads More read wide is all longer → Avoids all test after → Avoids is test after
avoids_inside r a = record { avoiding = λ x front rest h ends. a.avoiding x front rest (inside r x front h) ends }

-- fewer kinds go on with the part than these
pub weaken : {More : Type 0} {X : Type 0} {read wide : Reader X} {is all : Language X} {longer longer' : ℕ → Bool} → ((rest : List Token) → starts longer' rest ≡ false → starts longer rest ≡ false) → Reads More read wide is all longer → Reads More read wide is all longer'
weaken fewer r = record {
  laws = record { takes = r.laws.takes; stops = r.laws.stops; again = λ x front rest h ends. r.laws.again x front rest h (fewer rest ends) };
  wide_laws = record { takes = r.wide_laws.takes; stops = r.wide_laws.stops; again = λ x front rest h ends. r.wide_laws.again x front rest h (fewer rest ends) };
  widens = r.widens;
  some = r.some;
}

-- ---- first tokens

pub starts_also : {X : Type 0} {is : Language X} {test test' : ℕ → Bool} → ((n : ℕ) → test n ≡ true → test' n ≡ true) → Starts is test → Starts is test'
starts_also {X} {is} {test} {test'} more s = record { starting = λ x front rest h. go (front ++ rest) (s.starting x front rest h) } where
  go : (tokens : List Token) → starts test tokens ≡ true → starts test' tokens ≡ true
  go [] h = absurd (false≢true h)
  go (t ∷ ts) h = more (number_of t.kind) h

pub or_left : (a b : ℕ → Bool) (n : ℕ) → a n ≡ true → or a b n ≡ true
or_left a b n h = rw h refl

true_right : (a b : Bool) → b ≡ true → (a || b) ≡ true
true_right true b h = refl
true_right false b h = h

pub or_right : (a b : ℕ → Bool) (n : ℕ) → b n ≡ true → or a b n ≡ true
or_right a b n h = true_right (a n) (b n) h

-- one test or another, and then a third fails
pub or_fails : (a b test : ℕ → Bool) → ((n : ℕ) → a n ≡ true → test n ≡ false) → ((n : ℕ) → b n ≡ true → test n ≡ false) → (n : ℕ) → or a b n ≡ true → test n ≡ false
or_fails a b test one other n h = go (a n) refl h where
  go : (v : Bool) → a n ≡ v → (v || b n) ≡ true → test n ≡ false
  go true e h = one n e
  go false e h = other n h

-- tokens that pass one test fail another
pub tokens_fail : (a b : ℕ → Bool) → ((n : ℕ) → a n ≡ true → b n ≡ false) → (tokens : List Token) → starts a tokens ≡ true → starts b tokens ≡ false
tokens_fail a b fails [] h = refl
tokens_fail a b fails (t ∷ ts) h = fails (number_of t.kind) h

pub or_apart : (test longer : ℕ → Bool) → ((n : ℕ) → test n ≡ true → longer n ≡ false) → Apart test longer (or test longer)
or_apart test longer fails = record { opens = tokens_fail test longer fails; follows = starts_or test longer }

-- the number of a kind passes
pub is_a_passes : (kind : TokenKind) (test : ℕ → Bool) → test (number_of kind) ≡ true → (n : ℕ) → is_a kind n ≡ true → test n ≡ true
is_a_passes kind test e n h = rw (eqb-true n (number_of kind) h) e

pub either_starts : {X : Type 0} {is is' : Language X} {test : ℕ → Bool} → Starts is test → Starts is' test → Starts (Either is is') test
either_starts one other = record { starting = λ x front rest h. elim h [ inl a ↦ one.starting x front rest a | inr b ↦ other.starting x front rest b ] }

-- a part that may be missing, and what follows it
pub if_starts : {A B : Type 0} {one : Language A} {a : A} {is' : A → Language B} {test : ℕ → Bool} → Starts one test → ((x : A) → Starts (is' x) test) → Starts (Then (Either one (Gives a)) is') test
if_starts {test = test} first second = record {
  starting = λ x front rest h. rw (h.parts, append_assoc h.front h.back rest) (elim h.is_first [
    | inl p ↦ first.starting h.head h.front (h.back ++ rest) p
    | inr g ↦ rw g.1 ((second h.head).starting x h.back rest h.is_second)
  ]);
}

pub never_starts : {X : Type 0} (test : ℕ → Bool) → Starts {X = X} Never test
never_starts test = record { starting = λ x front rest h. absurd h }

pub allowed_starts : {X : Type 0} {is : Language X} {test : ℕ → Bool} (allowed : Bool) → Starts is test → Starts (Allowed allowed is) test
allowed_starts true s = s
allowed_starts {test = test} false s = never_starts test

pub with_place_starts : {X : Type 0} {is : Language X} {test : ℕ → Bool} → Starts is test → Starts (WithPlace is) test
with_place_starts s = record { starting = λ x front rest h. s.starting x.value front rest h.0 }

pub with_place_avoids : {X : Type 0} {is : Language X} {test longer : ℕ → Bool} → Avoids is test longer → Avoids (WithPlace is) test longer
with_place_avoids s = record { avoiding = λ x front rest h ends. s.avoiding x.value front rest h.0 ends }

pub one_starts : {X : Type 0} (value : Token → Option X) (test : ℕ → Bool) → ((token : Token) (x : X) → value token ≡ Some x → test (number_of token.kind) ≡ true) → Starts (One value) test
one_starts value test passes = record { starting = λ x front rest h. rw h.1 (passes h.0 x h.2) }

-- what begins with a token that passes one test doesn't begin with one that passes another
pub avoids_by : {X : Type 0} {is : Language X} {test test' longer : ℕ → Bool} → ((n : ℕ) → test n ≡ true → test' n ≡ false) → Starts is test → Avoids is test' longer
avoids_by {X} {is} {test} {test'} fails s = record { avoiding = λ x front rest h ends. go (front ++ rest) (s.starting x front rest h) } where
  go : (tokens : List Token) → starts test tokens ≡ true → starts test' tokens ≡ false
  go [] h = refl
  go (t ∷ ts) h = fails (number_of t.kind) h

pub is_a_fails : (kind : TokenKind) (test : ℕ → Bool) → test (number_of kind) ≡ false → (n : ℕ) → is_a kind n ≡ true → test n ≡ false
is_a_fails kind test e n h = rw (eqb-true n (number_of kind) h) e

-- a list that begins with a symbol doesn't begin with a token that fails there
pub symbol_avoids : {X : Type 0} {is : Span → Language X} (kind : TokenKind) (test : ℕ → Bool) {longer : ℕ → Bool} → test (number_of kind) ≡ false → Avoids (Then (Symbol kind) is) test longer
symbol_avoids kind test e = avoids_by (is_a_fails kind test e) (then_starts (symbol_starts kind))

pub nothing_avoids : {X : Type 0} (is : Language X) {longer : ℕ → Bool} → Avoids is nothing longer
nothing_avoids is = record { avoiding = λ x front rest h ends. starts_nothing (front ++ rest) }

pub or_avoids : {X : Type 0} {is : Language X} {a b longer : ℕ → Bool} → Avoids is a longer → Avoids is b longer → Avoids is (or a b) longer
or_avoids {a = a} {b = b} one other = record { avoiding = λ x front rest h ends. starts_neither a b (front ++ rest) (one.avoiding x front rest h ends) (other.avoiding x front rest h ends) }

-- a first part that may be empty, and what follows it
pub then_avoids_both : {A B : Type 0} {is : Language A} {is' : A → Language B} {test longer : ℕ → Bool} → Avoids is test test → ((a : A) → Avoids (is' a) test longer) → Avoids (Then is is') test longer
then_avoids_both first second = record { avoiding = λ x front rest h ends. rw (h.parts, append_assoc h.front h.back rest) (first.avoiding h.head h.front (h.back ++ rest) h.is_first ((second h.head).avoiding x h.back rest h.is_second ends)) }

pub map_avoids : {A B : Type 0} {is : Language A} {f : A → B} {test longer : ℕ → Bool} → Avoids is test longer → Avoids (Then is (λ a. Gives (f a))) test longer
map_avoids first = record { avoiding = λ x front rest h ends. rw (h.parts, h.is_second.1, append-nil h.front) (first.avoiding h.head h.front rest h.is_first ends) }

-- ---- one token, or none

symbol_plain : (kind : TokenKind) (tokens : List Token) (s : Stop) → symbol_at kind tokens ≡ Err s → s.0 ≡ Expected
symbol_plain kind [] s e = sym (ap (λ (z : Stop). z.0) (err_is {A = Span × List Token} (stop_at []) s e))
symbol_plain kind (t ∷ ts) s e = sym (ap (λ (z : Stop). z.0) (chosen_err (eqb (number_of t.kind) (number_of kind)) t ts s e).1)

token_plain : {X : Type 0} (value : Token → Option X) (tokens : List Token) (s : Stop) → token_at value tokens ≡ Err s → s.0 ≡ Expected
token_plain {X} value [] s e = sym (ap (λ (z : Stop). z.0) (err_is {A = X × List Token} (stop_at []) s e))
token_plain {X} value (t ∷ ts) s e = go (value t) e where
  go : (o : Option X) → taken o (t ∷ ts) ts ≡ Err s → s.0 ≡ Expected
  go None e = sym (ap (λ (z : Stop). z.0) (err_is {A = X × List Token} (stop_at (t ∷ ts)) s e))
  go (Some x) e = absurd cc

pub gives_reads : {More : Type 0} {X : Type 0} (x : X) (longer : ℕ → Bool) → Reads More (λ tokens. Ok (x, tokens)) (λ tokens. Ok (x, tokens)) (Gives x) (Gives x) longer
gives_reads x longer = record { laws = gives_laws x longer; wide_laws = gives_laws x longer; widens = gives_widens x; some = gives_some x }

pub symbol_reads : {More : Type 0} (kind : TokenKind) → is_symbol kind ≡ true → (longer : ℕ → Bool) → Reads More (symbol_at kind) (symbol_at kind) (Symbol kind) (Symbol kind) longer
symbol_reads kind symbolic longer = record { laws = symbol_laws kind symbolic longer; wide_laws = symbol_laws kind symbolic longer; widens = plain_widens (symbol_at kind) (Symbol kind) (symbol_plain kind); some = symbol_some kind }

pub one_reads : {More : Type 0} {X : Type 0} (value : Token → Option X) (longer : ℕ → Bool) → Begins (One value) [] → Reads More (token_at value) (token_at value) (One value) (One value) longer
one_reads value longer some = record { laws = one_laws value longer some; wide_laws = one_laws value longer some; widens = plain_widens (token_at value) (One value) (token_plain value); some = some }

-- ---- one part, and then another

pub then_reads : {More : Type 0} {A B : Type 0} {read wide : Reader A} {is all : Language A} {longer : ℕ → Bool} {read' wide' : A → Reader B} {is' all' : A → Language B} {longer' : ℕ → Bool}
    → Reads More read wide is all longer → ((a : A) → Reads More (read' a) (wide' a) (is' a) (all' a) longer') → ((a : A) → Avoids (all' a) longer longer')
    → Reads More (λ tokens. read tokens >>= λ p. read' p.0 p.1) (λ tokens. wide tokens >>= λ p. wide' p.0 p.1) (Then is is') (Then all all') longer'
then_reads first second avoids = record {
  laws = then_laws first.laws (λ a. (second a).laws) (λ a. (second a).some) (λ a x back rest h ends. (avoids_inside (second a) (avoids a)).avoiding x back rest h ends);
  wide_laws = then_laws first.wide_laws (λ a. (second a).wide_laws) (λ a. wide_some (second a)) (λ a x back rest h ends. (avoids a).avoiding x back rest h ends);
  widens = then_widens first.widens first.wide_laws (λ a. (second a).widens) (λ a. wide_some (second a));
  some = then_some first.some (λ a. (second a).some);
}

-- a part that nothing goes on with, and then another
pub next_reads : {More : Type 0} {A B : Type 0} {read wide : Reader A} {is all : Language A} {read' wide' : A → Reader B} {is' all' : A → Language B} {longer' : ℕ → Bool}
    → Reads More read wide is all nothing → ((a : A) → Reads More (read' a) (wide' a) (is' a) (all' a) longer')
    → Reads More (λ tokens. read tokens >>= λ p. read' p.0 p.1) (λ tokens. wide tokens >>= λ p. wide' p.0 p.1) (Then is is') (Then all all') longer'
next_reads {all' = all'} first second = then_reads first second (λ a. nothing_avoids (all' a))

pub map_reads : {More : Type 0} {A B : Type 0} {read wide : Reader A} {is all : Language A} {longer : ℕ → Bool} (f : A → B) → Reads More read wide is all longer
    → Reads More (λ tokens. read tokens >>= λ p. Ok (f p.0, p.1)) (λ tokens. wide tokens >>= λ p. Ok (f p.0, p.1)) (Then is (λ a. Gives (f a))) (Then all (λ a. Gives (f a))) longer
map_reads f r = record { laws = map_laws f r.laws; wide_laws = map_laws f r.wide_laws; widens = map_widens f r.widens; some = map_some f r.some }

-- ---- two ways

either_some : {X : Type 0} {is is' : Language X} → Begins is' [] → Begins (Either is is') []
either_some b = record { value = b.value; tail = b.tail; whole = inr b.whole }

pub either_reads : {More : Type 0} {X : Type 0} (test : ℕ → Bool) {read wide : Reader X} {is all : Language X} {longer : ℕ → Bool} {read' wide' : Reader X} {is' all' : Language X}
    → Reads More read wide is all longer → Starts all test → Reads More read' wide' is' all' longer → Avoids all' test longer
    → Reads More (λ tokens. cond (starts test tokens) (read tokens) (read' tokens)) (λ tokens. cond (starts test tokens) (wide tokens) (wide' tokens)) (Either is is') (Either all all') longer
either_reads test one first other avoids = record {
  laws = either_laws test one.laws other.laws (starts_inside one first) (avoids_inside other avoids);
  wide_laws = either_laws test one.wide_laws other.wide_laws first avoids;
  widens = either_widens test one.widens other.widens;
  some = either_some other.some;
}

-- A way that a first token opens: with levels left, with none left but some for the wider reader, or with none for both.
pub data Way (More : Type 0) {X : Type 0} (test : ℕ → Bool) (read wide : Reader X) (is all : Language X) (longer : ℕ → Bool) : Type 0 where
  open_way : Reads More read wide is all longer → Starts all test → Way More test read wide is all longer
  shut_way : IsClosed read is test TooDeep → Laws wide all longer → Starts all test → ((token : Token) → test (number_of token.kind) ≡ true → Begins all (token ∷ [])) → Way More test read wide is all longer
  no_way : IsClosed read is test TooDeep → IsClosed wide all test TooDeep → (More → ⊥) → Way More test read wide is all longer

module _ {More : Type 0} {X : Type 0} (test : ℕ → Bool) {read : Reader X} (wide : Reader X) {is all : Language X} (shut : IsClosed read is test TooDeep) {read' wide' : Reader X} {is' all' : Language X} {longer : ℕ → Bool} (other : Reads More read' wide' is' all' longer)
    (opens : (tokens : List Token) → starts test tokens ≡ true → More → GoesOn (Either all all') tokens tokens) where
  abbrev pick : Reader X
  pick tokens = cond (starts test tokens) (read tokens) (read' tokens)

  abbrev wide_pick : Reader X
  wide_pick tokens = cond (starts test tokens) (wide tokens) (wide' tokens)

  shut_keeps : (tokens : List Token) (y : X × List Token) → pick tokens ≡ Ok y → wide_pick tokens ≡ Ok y
  shut_keeps tokens y e = elim (chosen (starts test tokens) (read tokens) (read' tokens) (Ok y) e) [
    | inl h ↦ let bad : failed {A = X × List Token} (TooDeep, tokens) ≡ done y = sym (shut.faults tokens h.0) ∙ h.1 in absurd cc
    | inr h ↦ rw h.0 (other.widens.keeps tokens y h.1)
  ]

  right : (tokens rest : List Token) → GoesOn all' tokens rest → GoesOn (Either all all') tokens rest
  right tokens rest g = record { front = g.front; token = g.token; after = g.after; parts = g.parts; rest_is = g.rest_is; begins = record { value = g.begins.value; tail = g.begins.tail; whole = inr g.begins.whole } }

  shut_faults : (tokens : List Token) (s : Stop) → pick tokens ≡ Err s → Faults More wide_pick (Either all all') tokens s
  shut_faults tokens s e = elim (chosen (starts test tokens) (read tokens) (read' tokens) (Err s) e) [
    | inl h ↦
        let same = err_is {A = X × List Token} (TooDeep, tokens) s (sym (shut.faults tokens h.0) ∙ h.1) in
        subst (λ (z : Stop). Faults More wide_pick (Either all all') tokens z) same (inr (tt, λ more. opens tokens h.0 more))
    | inr h ↦ elim (other.widens.faults tokens s h.1) [ inl k ↦ inl (k.0, rw h.0 k.1) | inr g ↦ inr (g.0, λ more. right tokens s.1 (g.1 more)) ]
  ]

  shut_reads : Laws wide_pick (Either all all') longer → Avoids is' test longer → Reads More pick wide_pick (Either is is') (Either all all') longer
  shut_reads wide_laws avoids = record {
    laws = closed_laws test TooDeep shut other.laws other.some avoids;
    wide_laws = wide_laws;
    widens = record { keeps = shut_keeps; faults = shut_faults };
    some = either_some other.some;
  }

-- a token that opens the way goes on where levels are left
way_goes : {X : Type 0} (test : ℕ → Bool) {all all' : Language X} → ((token : Token) → test (number_of token.kind) ≡ true → Begins all (token ∷ [])) → (tokens : List Token) → starts test tokens ≡ true → GoesOn (Either all all') tokens tokens
way_goes test goes [] h = absurd (false≢true h)
way_goes test goes (t ∷ ts) h =
    let b = goes t h in
    record { front = []; token = t; after = ts; parts = refl; rest_is = refl; begins = record { value = b.value; tail = b.tail; whole = inl b.whole } }

pub way_reads : {More : Type 0} {X : Type 0} (test : ℕ → Bool) {read wide : Reader X} {is all : Language X} {longer : ℕ → Bool} {read' wide' : Reader X} {is' all' : Language X}
    → Way More test read wide is all longer → Reads More read' wide' is' all' longer → Avoids all' test longer
    → Reads More (λ tokens. cond (starts test tokens) (read tokens) (read' tokens)) (λ tokens. cond (starts test tokens) (wide tokens) (wide' tokens)) (Either is is') (Either all all') longer
way_reads test {wide = wide} (open_way r first) other avoids = either_reads test r first other avoids
way_reads test {wide = wide} (shut_way shut wide_laws first goes) other avoids =
    shut_reads test wide shut other (λ tokens h more. way_goes test goes tokens h) (either_laws test wide_laws other.wide_laws first avoids) (avoids_inside other avoids)
way_reads test {wide = wide} (no_way shut wide_shut none) other avoids =
    shut_reads test wide shut other (λ tokens h more. absurd (none more)) (closed_laws test TooDeep wide_shut other.wide_laws (wide_some other) avoids) (avoids_inside other avoids)

pub way_starts : {More : Type 0} {X : Type 0} {test : ℕ → Bool} {read wide : Reader X} {is all : Language X} {longer : ℕ → Bool} → Way More test read wide is all longer → Starts all test
way_starts (open_way r first) = first
way_starts (shut_way shut wide_laws first goes) = first
way_starts (no_way shut wide_shut none) = record { starting = λ x front rest h. absurd (wide_shut.empty x front h) }

-- a part that may be missing doesn't begin with what fails at its first token
pub optional_avoids : {X : Type 0} {is : Language X} (x : X) (kind : TokenKind) (longer : ℕ → Bool) → longer (number_of kind) ≡ false → Starts is (is_a kind) → Avoids (Either is (Gives x)) longer (or (is_a kind) longer)
optional_avoids x kind longer fails first = record {
  avoiding = λ y front rest h ends. elim h [
    | inl a ↦ apart kind longer fails (front ++ rest) (first.starting y front rest a)
    | inr g ↦ rw g.1 (starts_or (is_a kind) longer rest ends).1
  ];
}

-- no list, and a fault at its first token
pub shut_closed : {X : Type 0} (test : ℕ → Bool) → IsClosed {X = X} shut_at Never test TooDeep
shut_closed test = record { empty = λ x tokens h. h; faults = λ tokens h. refl }

-- a way that is not allowed
never_laws : {X : Type 0} {read : Reader X} {is : Language X} {longer : ℕ → Bool} → Laws read is longer → Laws read (Either Never is) longer
never_laws l = record {
  takes = λ tokens x rest e. let t = l.takes tokens x rest e in record { front = t.front; parts = t.parts; is_read = inr t.is_read; fixed = t.fixed };
  stops = λ tokens kind rest e. let t = l.stops tokens kind rest e in record { front = t.front; parts = t.parts; begins = record { value = t.begins.value; tail = t.begins.tail; whole = inr t.begins.whole }; fixed = t.fixed };
  again = λ x front rest h ends. elim h [ inl a ↦ absurd a | inr b ↦ l.again x front rest b ends ];
}

never_widens : {More : Type 0} {X : Type 0} {read wide : Reader X} {is : Language X} → Widens More read wide is → Widens More read wide (Either Never is)
never_widens w = record {
  keeps = w.keeps;
  faults = λ tokens s e. elim (w.faults tokens s e) [
    | inl k ↦ inl k
    | inr p ↦ inr (p.0, λ more. let g = p.1 more in record { front = g.front; token = g.token; after = g.after; parts = g.parts; rest_is = g.rest_is; begins = record { value = g.begins.value; tail = g.begins.tail; whole = inr g.begins.whole } })
  ];
}

pub allowed_reads : {More : Type 0} {X : Type 0} (allowed : Bool) (test : ℕ → Bool) {read wide : Reader X} {is all : Language X} {longer : ℕ → Bool} {read' wide' : Reader X} {is' all' : Language X}
    → Reads More read wide is all longer → Starts all test → Reads More read' wide' is' all' longer → Avoids all' test longer
    → Reads More (λ tokens. cond (allowed && starts test tokens) (read tokens) (read' tokens)) (λ tokens. cond (allowed && starts test tokens) (wide tokens) (wide' tokens)) (Either (Allowed allowed is) is') (Either (Allowed allowed all) all') longer
allowed_reads true test one first other avoids = either_reads test one first other avoids
allowed_reads false test one first other avoids = record { laws = never_laws other.laws; wide_laws = never_laws other.wide_laws; widens = never_widens other.widens; some = either_some other.some }

-- ---- several parts

pub many_reads : {More : Type 0} {X : Type 0} (test : ℕ → Bool) {read wide : Reader X} {is all : Language X} {longer : ℕ → Bool} {after : ℕ → Bool}
    → Reads More read wide is all longer → Starts all test → Apart test longer after → Reads More (many_at test read) (many_at test wide) (Many is) (Many all) after
many_reads test {is = is} {after = after} each first apart_is = record {
  laws = many_laws test each.laws (starts_inside each first) after apart_is;
  wide_laws = many_laws test each.wide_laws first after apart_is;
  widens = many_widens test each.widens each.wide_laws;
  some = many_some is;
}

pub after_reads : {More : Type 0} {X : Type 0} (kind : TokenKind) {read wide : Reader X} {is all : Language X} {longer : ℕ → Bool}
    → is_symbol kind ≡ true → Reads More read wide is all longer → Reads More (after_at kind read) (after_at kind wide) (After kind is) (After kind all) longer
after_reads kind symbolic part = next_reads (symbol_reads kind symbolic nothing) (λ at. part)

symbol_apart : (kind : TokenKind) (longer : ℕ → Bool) → longer (number_of kind) ≡ false → Apart (is_a kind) longer (or (is_a kind) longer)
symbol_apart kind longer fails = record { opens = apart kind longer fails; follows = starts_or (is_a kind) longer }

pub separated_reads : {More : Type 0} {X : Type 0} (kind : TokenKind) {read wide : Reader X} {is all : Language X} {longer : ℕ → Bool}
    → is_symbol kind ≡ true → Reads More read wide is all longer → longer (number_of kind) ≡ false → Reads More (separated_at kind read) (separated_at kind wide) (Separated kind is) (Separated kind all) (or (is_a kind) longer)
separated_reads kind {longer = longer} symbolic each fails =
    let between = symbol_apart kind longer fails in
    then_reads each
    (λ first_part. map_reads (λ others. first_part ∷ others) (many_reads (is_a kind) (after_reads kind symbolic each) (then_starts (symbol_starts kind)) between))
    (λ first_part. map_avoids (many_avoids (then_starts (symbol_starts kind)) between))

pub if_symbol_reads : {More : Type 0} {X : Type 0} (kind : TokenKind) {read wide : Reader X} {is all : Language X} {longer : ℕ → Bool}
    → is_symbol kind ≡ true → Reads More read wide is all longer → Reads More (if_symbol_at kind read) (if_symbol_at kind wide) (IfSymbol kind is) (IfSymbol kind all) (or (is_a kind) longer)
if_symbol_reads {X} kind {longer = longer} symbolic part =
    let nobody : Option X = None in
    either_reads (is_a kind)
    (weaken (λ rest ends. (starts_or (is_a kind) longer rest ends).1) (map_reads Some (after_reads kind symbolic part)))
    (then_starts (then_starts (symbol_starts kind)))
    (gives_reads nobody (or (is_a kind) longer))
    (gives_avoids nobody (is_a kind) longer)

pub if_symbol_avoids : {X : Type 0} (kind : TokenKind) (is : Language X) (test : ℕ → Bool) → test (number_of kind) ≡ false → Avoids (IfSymbol kind is) test test
if_symbol_avoids {X} kind is test fails = record {
  avoiding = λ x front rest h ends. elim h [
    | inl a ↦ apart kind test fails (front ++ rest) ((then_starts (then_starts (symbol_starts kind))).starting x front rest a)
    | inr b ↦ rw b.1 ends
  ];
}

-- ---- with the place of the first token

place_front : {X : Type 0} {is : Language X} {test : ℕ → Bool} → Starts is test → (x : X) (front rest : List Token) → is x front → first_place (front ++ rest) ≡ first_place front
place_front {test = test} first x [] rest h = absurd (false≢true (first.starting x [] [] h))
place_front first x (t ∷ front) rest h = refl

module _ {X : Type 0} {read : Reader X} {is : Language X} {longer : ℕ → Bool} {test : ℕ → Bool} (l : Laws read is longer) (first : Starts is test) where
  abbrev placed : List Token → X → Placed X
  placed tokens x = record { place = first_place tokens; value = x }

  abbrev step : List Token → X × List Token → Outcome (Placed X)
  step tokens x = Ok (placed tokens x.0, x.1)

  place_takes : (tokens : List Token) (x : Placed X) (rest : List Token) → with_place_at read tokens ≡ Ok (x, rest) → Took (with_place_at read) (WithPlace is) tokens x rest
  place_takes tokens x rest e =
      let a = bind_ok (read tokens) (step tokens) (x, rest) e in
      let t = l.takes tokens a.0.0 a.0.1 a.1 in
      let here : first_place tokens ≡ first_place t.front = ap first_place t.parts ∙ place_front first a.0.0 t.front a.0.1 t.is_read in
      let made : Placed X × List Token = (placed tokens a.0.0, a.0.1) in
      subst (λ (p : Placed X × List Token). Took (with_place_at read) (WithPlace is) tokens p.0 p.1) (ok_is made (x, rest) a.2) (record {
        front = t.front;
        parts = t.parts;
        is_read = (t.is_read, here);
        fixed = λ other h. rw (t.fixed other h) (ap (λ (s : Span). done (record { place = s; value = a.0.0 }, other)) (place_front first a.0.0 t.front other t.is_read ∙ sym here));
      })

  place_stops : (tokens : List Token) (s : Stop) → with_place_at read tokens ≡ Err s → Stopped (with_place_at read) (WithPlace is) tokens s.0 s.1
  place_stops tokens s e = elim (bind_err (read tokens) (step tokens) s e) [
    | inl h ↦
        let t = l.stops tokens s.0 s.1 h in
        record { front = t.front; parts = t.parts; begins = record { value = placed (t.front ++ t.begins.tail) t.begins.value; tail = t.begins.tail; whole = (t.begins.whole, refl) }; fixed = λ other same. rw (t.fixed other same) refl }
    | inr a ↦ absurd cc
  ]

  with_place_laws : Laws (with_place_at read) (WithPlace is) longer
  with_place_laws = record {
    takes = place_takes;
    stops = λ tokens kind rest e. place_stops tokens (kind, rest) e;
    again = λ x front rest h ends. rw (l.again x.value front rest h.0 ends) (ap (λ (s : Span). done (record { place = s; value = x.value }, rest)) (place_front first x.value front rest h.0 ∙ sym h.1));
  }

with_place_widens : {More : Type 0} {X : Type 0} {read wide : Reader X} {all : Language X} → Widens More read wide all → Widens More (with_place_at read) (with_place_at wide) (WithPlace all)
with_place_widens {X} {read} {wide} {all} w = record {
  keeps = λ tokens y e. let a = bind_ok (read tokens) (λ x. Ok (record { place = first_place tokens; value = x.0 }, x.1)) y e in rw (w.keeps tokens a.0 a.1) a.2;
  faults = λ tokens s e. elim (bind_err (read tokens) (λ x. Ok (record { place = first_place tokens; value = x.0 }, x.1)) s e) [
    | inl h ↦ elim (w.faults tokens s h) [
      | inl k ↦ inl (k.0, rw k.1 refl)
      | inr p ↦
          inr (
            p.0,
            λ more. let g = p.1 more in record {
              front = g.front;
              token = g.token;
              after = g.after;
              parts = g.parts;
              rest_is = g.rest_is;
              begins = record { value = record { place = first_place ((g.front ++ g.token ∷ []) ++ g.begins.tail); value = g.begins.value }; tail = g.begins.tail; whole = (g.begins.whole, refl) };
            },
          )
    ]
    | inr a ↦ absurd cc
  ];
}

pub with_place_reads : {More : Type 0} {X : Type 0} {read wide : Reader X} {is all : Language X} {longer test : ℕ → Bool} → Starts all test → Reads More read wide is all longer → Reads More (with_place_at read) (with_place_at wide) (WithPlace is) (WithPlace all) longer
with_place_reads first r = record {
  laws = with_place_laws r.laws (starts_inside r first);
  wide_laws = with_place_laws r.wide_laws first;
  widens = with_place_widens r.widens;
  some = record { value = record { place = first_place r.some.tail; value = r.some.value }; tail = r.some.tail; whole = (r.some.whole, refl) };
}

-- ---- a symbol that opens a level, before what follows it
pub symbol_goes : {X : Type 0} (kind : TokenKind) {is : Span → Language X} → is_symbol kind ≡ true → ((at : Span) → Begins (is at) []) → (token : Token) → is_a kind (number_of token.kind) ≡ true → Begins (Then (Symbol kind) is) (token ∷ [])
symbol_goes kind symbolic some token h =
    let b = some token.span in
    record { value = b.value; tail = b.tail; whole = record { head = token.span; front = token ∷ []; back = b.tail; parts = refl; is_first = (token, refl, same_kind kind token.kind symbolic (eqb-true (number_of token.kind) (number_of kind) h), refl); is_second = b.whole } }

pub either_goes : {X : Type 0} {is is' : Language X} (a b : ℕ → Bool) → ((token : Token) → a (number_of token.kind) ≡ true → Begins is (token ∷ [])) → ((token : Token) → b (number_of token.kind) ≡ true → Begins is' (token ∷ []))
    → (token : Token) → or a b (number_of token.kind) ≡ true → Begins (Either is is') (token ∷ [])
either_goes {is = is} {is' = is'} a b one other token h = go (a (number_of token.kind)) refl h where
  go : (v : Bool) → a (number_of token.kind) ≡ v → (v || b (number_of token.kind)) ≡ true → Begins (Either is is') (token ∷ [])
  go true e h = let p = one token e in record { value = p.value; tail = p.tail; whole = inl p.whole }
  go false e h = let p = other token h in record { value = p.value; tail = p.tail; whole = inr p.whole }
