-- More laws of readers: one token, lists with separators, and a way that is closed.
use Rattle.std.proofs.Common.{◌≡◌, ℕ, Bool, true, false, cond, ◌||◌, List, [], ◌∷◌, ◌++◌, Option, Some, None, Ok, Err, refl, sym, ap, subst, ◌∙◌, append_assoc, inl, inr}
use Rattle.std.proofs.lemmas.Bool.{eqb-true, eq-eqb, false≢true}
use Rattle.og_text.specs.Kinds.{number_of}
use Rattle.og_text.specs.declared.token.TokenKind.{TokenKind}
use Rattle.og_text.specs.declared.token.Token.{Token}
use Rattle.og_parse.specs.declared.refusal.FaultKind.{FaultKind}
use Rattle.og_parse.specs.declared.refusal.FaultKind.TheVariants.{Expected}
use Rattle.og_parse.specs.Language.{Language, Symbol, One, Gives, Then, Either, Many, After, Separated}
use Rattle.og_parse.specs.Fronts.{Begins}
use Rattle.og_parse.specs.Reading.{Stop, Reader, is_a, nothing, or, starts, taken, token_at}
use Rattle.og_parse.proofs.Languages.{SameHead, starts-same, SameHead-front, Took, Stopped, Laws, Starts, Avoids, ok_is, err_is, done, failed, stops_here, chosen}

pub starts_nothing : (tokens : List Token) → starts nothing tokens ≡ false
starts_nothing [] = refl
starts_nothing (t ∷ ts) = refl

or_false : (a b : Bool) → (a || b) ≡ false → (a ≡ false) × (b ≡ false)
or_false true b e = absurd (false≢true (sym e))
or_false false b e = (refl, e)

pub starts_or : (a b : ℕ → Bool) (tokens : List Token) → starts (or a b) tokens ≡ false → (starts a tokens ≡ false) × (starts b tokens ≡ false)
starts_or a b [] e = (refl, refl)
starts_or a b (t ∷ ts) e = or_false (a (number_of t.kind)) (b (number_of t.kind)) e

pub starts_neither : (a b : ℕ → Bool) (tokens : List Token) → starts a tokens ≡ false → starts b tokens ≡ false → starts (or a b) tokens ≡ false
starts_neither a b [] h k = refl
starts_neither a b (t ∷ ts) h k = rw (h, k) refl

pub gives_avoids : {X : Type 0} (x : X) (test other : ℕ → Bool) → Avoids (Gives x) test (or test other)
gives_avoids x test other = record { avoiding = λ y front rest h ends. rw h.1 (starts_or test other rest ends).0 }

-- tokens that begin with this kind don't begin with one that fails there
pub apart : (kind : TokenKind) (test : ℕ → Bool) → test (number_of kind) ≡ false → (tokens : List Token) → starts (is_a kind) tokens ≡ true → starts test tokens ≡ false
apart kind test fails [] h = refl
apart kind test fails (t ∷ ts) h = rw (eqb-true (number_of t.kind) (number_of kind) h) fails

-- ---- first tokens

pub symbol_starts : (kind : TokenKind) → Starts (Symbol kind) (is_a kind)
symbol_starts kind = record { starting = λ x front rest is. rw is.1 (eq-eqb (number_of is.0.kind) (number_of kind) (ap number_of is.2)) }

pub then_starts : {A B : Type 0} {is : Language A} {is' : A → Language B} {test : ℕ → Bool} → Starts is test → Starts (Then is is') test
then_starts first = record { starting = λ x front rest h. rw (h.parts, append_assoc h.front h.back rest) (first.starting h.head h.front (h.back ++ rest) h.is_first) }

pub then_avoids : {A B : Type 0} {is : Language A} {is' : A → Language B} {test longer : ℕ → Bool} → Avoids is test nothing → Avoids (Then is is') test longer
then_avoids first = record { avoiding = λ x front rest h ends. rw (h.parts, append_assoc h.front h.back rest) (first.avoiding h.head h.front (h.back ++ rest) h.is_first (starts_nothing (h.back ++ rest))) }

pub starts_avoids : {X : Type 0} {is : Language X} (kind : TokenKind) (test : ℕ → Bool) {longer : ℕ → Bool} → test (number_of kind) ≡ false → Starts is (is_a kind) → Avoids is test longer
starts_avoids kind test fails first = record { avoiding = λ x front rest h ends. apart kind test fails (front ++ rest) (first.starting x front rest h) }

pub either_avoids : {X : Type 0} {is is' : Language X} {test longer : ℕ → Bool} → Avoids is test longer → Avoids is' test longer → Avoids (Either is is') test longer
either_avoids one other = record { avoiding = λ x front rest h ends. elim h [ inl a ↦ one.avoiding x front rest a ends | inr b ↦ other.avoiding x front rest b ends ] }

-- ---- some list

pub gives_some : {X : Type 0} (x : X) → Begins (Gives x) []
gives_some x = record { value = x; tail = []; whole = (refl, refl) }

pub then_some : {A B : Type 0} {is : Language A} {is' : A → Language B} → Begins is [] → ((a : A) → Begins (is' a) []) → Begins (Then is is') []
then_some a then = let b = then a.value in record { value = b.value; tail = a.tail ++ b.tail; whole = record { head = a.value; front = a.tail; back = b.tail; parts = refl; is_first = a.whole; is_second = b.whole } }

pub map_some : {A B : Type 0} {is : Language A} (f : A → B) → Begins is [] → Begins (Then is (λ a. Gives (f a))) []
map_some f a = then_some a (λ x. gives_some (f x))

pub many_some : {X : Type 0} (is : Language X) → Begins (Many is) []
many_some is = record { value = []; tail = []; whole = refl }

pub separated_some : {X : Type 0} (kind : TokenKind) {is : Language X} → Begins is [] → Begins (Separated kind is) []
separated_some kind {is} some = then_some some (λ first. map_some (λ others. first ∷ others) (many_some (After kind is)))

-- ---- one token with a value

module _ {X : Type 0} (value : Token → Option X) where
  taken_ok : (o : Option X) (tokens rest : List Token) (x : X) (after : List Token) → taken o tokens rest ≡ Ok (x, after) → (o ≡ Some x) × (rest ≡ after)
  taken_ok None tokens rest x after e = absurd cc
  taken_ok (Some y) tokens rest x after e = let same = ok_is (y, rest) (x, after) e in (ap (λ (p : X × List Token). Some p.0) same, ap (λ (p : X × List Token). p.1) same)

  abbrev stop_at : List Token → Stop
  stop_at tokens = (Expected, tokens)

  taken_err : (o : Option X) (tokens rest : List Token) (s : Stop) → taken o tokens rest ≡ Err s → (o ≡ None) × (stop_at tokens ≡ s)
  taken_err None tokens rest s e = (refl, err_is {A = X × List Token} (stop_at tokens) s e)
  taken_err (Some y) tokens rest s e = absurd cc

  one_takes : (tokens : List Token) (x : X) (rest : List Token) → token_at value tokens ≡ Ok (x, rest) → Took (token_at value) (One value) tokens x rest
  one_takes [] x rest e = absurd cc
  one_takes (t ∷ ts) x rest e =
      let c = taken_ok (value t) (t ∷ ts) ts x rest e in
      record { front = t ∷ []; parts = ap (λ (r : List Token). t ∷ r) c.1; is_read = (t, refl, c.0); fixed = λ other h. rw c.0 refl }

  none_nil : (other : List Token) → SameHead [] other → token_at value other ≡ Err (stop_at other)
  none_nil [] h = refl
  none_nil (u ∷ us) h = absurd h

  none_cons : (t : Token) (ts other : List Token) → value t ≡ None → SameHead (t ∷ ts) other → token_at value other ≡ Err (stop_at other)
  none_cons t ts [] e h = absurd h
  none_cons t ts (u ∷ us) e h = rw (← h, e) refl

  one_stops : Begins (One value) [] → (tokens : List Token) (s : Stop) → token_at value tokens ≡ Err s → Stopped (token_at value) (One value) tokens s.0 s.1
  one_stops some [] s e = subst (λ (z : Stop). Stopped (token_at value) (One value) [] z.0 z.1) (err_is {A = X × List Token} (stop_at []) s e) (stops_here (token_at value) (One value) Expected [] some none_nil)
  one_stops some (t ∷ ts) s e =
      let c = taken_err (value t) (t ∷ ts) ts s e in
      subst (λ (z : Stop). Stopped (token_at value) (One value) (t ∷ ts) z.0 z.1) c.1 (stops_here (token_at value) (One value) Expected (t ∷ ts) some (λ other h. none_cons t ts other c.0 h))

  pub one_some : (token : Token) (x : X) → value token ≡ Some x → Begins (One value) []
  one_some token x e = record { value = x; tail = token ∷ []; whole = (token, refl, e) }

  pub one_laws : (longer : ℕ → Bool) → Begins (One value) [] → Laws (token_at value) (One value) longer
  one_laws longer some = record {
    takes = one_takes;
    stops = λ tokens fault rest e. one_stops some tokens (fault, rest) e;
    again = λ x front rest is ends. rw (is.1, is.2) refl;
  }

  -- what the kinds of such tokens are not
  pub one_avoids : (test : ℕ → Bool) {longer : ℕ → Bool} → ((token : Token) (x : X) → value token ≡ Some x → test (number_of token.kind) ≡ false) → Avoids (One value) test longer
  one_avoids test fails = record { avoiding = λ x front rest h ends. rw h.1 (fails h.0 x h.2) }

-- ---- a way that is closed: no list of its language, and a fault at its first token

pub record IsClosed {X : Type 0} (read : Reader X) (is : Language X) (test : ℕ → Bool) (kind : FaultKind) : Type 0 where
  pub empty : (x : X) (tokens : List Token) → is x tokens → ⊥
  pub faults : (tokens : List Token) → starts test tokens ≡ true → read tokens ≡ Err (kind, tokens)

module _ {X : Type 0} (test : ℕ → Bool) (fault : FaultKind) {read : Reader X} {is : Language X} (one : IsClosed read is test fault) {longer : ℕ → Bool} {read' : Reader X} {is' : Language X} (other : Laws read' is' longer) (some : Begins is' []) where
  abbrev pick : Reader X
  pick tokens = cond (starts test tokens) (read tokens) (read' tokens)

  abbrev is_either : Language X
  is_either = Either is is'

  open_choice : (front rest others : List Token) (tokens : List Token) → tokens ≡ front ++ rest → SameHead rest others → starts test tokens ≡ false → starts test (front ++ others) ≡ false
  open_choice front rest others tokens parts same h = sym (starts-same test (front ++ rest) (front ++ others) (SameHead-front front rest others same)) ∙ ap (starts test) (sym parts) ∙ h

  closed_takes : (tokens : List Token) (x : X) (rest : List Token) → pick tokens ≡ Ok (x, rest) → Took pick is_either tokens x rest
  closed_takes tokens x rest e =
      elim (chosen (starts test tokens) (read tokens) (read' tokens) (Ok (x, rest)) e) [
        | inl h ↦ let bad : failed {A = X × List Token} (fault, tokens) ≡ done (x, rest) = sym (one.faults tokens h.0) ∙ h.1 in absurd cc
        | inr h ↦
            let t = other.takes tokens x rest h.1 in
            record { front = t.front; parts = t.parts; is_read = inr t.is_read; fixed = λ others same. let b = open_choice t.front rest others tokens t.parts same h.0 in rw b (t.fixed others same) }
      ]

  closed_stops : (tokens : List Token) (s : Stop) → pick tokens ≡ Err s → Stopped pick is_either tokens s.0 s.1
  closed_stops tokens s e =
      elim (chosen (starts test tokens) (read tokens) (read' tokens) (Err s) e) [
        | inl h ↦
            let same_stop = err_is {A = X × List Token} (fault, tokens) s (sym (one.faults tokens h.0) ∙ h.1) in
            let there : Begins is_either [] = record { value = some.value; tail = some.tail; whole = inr some.whole } in
            subst (λ (z : Stop). Stopped pick is_either tokens z.0 z.1) same_stop (stops_here pick is_either fault tokens there (λ others same.
            let b : starts test others ≡ true = sym (starts-same test tokens others same) ∙ h.0 in
            rw (b, one.faults others b) refl))
        | inr h ↦
            let t = other.stops tokens s.0 s.1 h.1 in
            record { front = t.front; parts = t.parts; begins = record { value = t.begins.value; tail = t.begins.tail; whole = inr t.begins.whole }; fixed = λ others same. let b = open_choice t.front s.1 others tokens t.parts same h.0 in rw b (t.fixed others same) }
      ]

  pub closed_laws : Avoids is' test longer → Laws pick is_either longer
  closed_laws avoids = record {
    takes = closed_takes;
    stops = λ tokens kind rest e. closed_stops tokens (kind, rest) e;
    again = λ x front rest is_x ends.
        elim is_x [
          | inl h ↦ absurd (one.empty x front h)
          | inr h ↦ rw (avoids.avoiding x front rest h ends) (other.again x front rest h ends)
        ];
  }
