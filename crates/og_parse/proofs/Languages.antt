-- What a reader and the language that it reads have to do with one another.
use Rattle.std.proofs.Common.{◌≡◌, ℕ, zero, suc, ◌≤◌, Bool, true, false, cond, eqb, List, [], ◌∷◌, ◌++◌, length, Result, Ok, Err, refl, sym, ap, subst, ◌∙◌, append_assoc, arith, inl, inr, length-append, ◌⊎◌}
use Rattle.std.proofs.lemmas.List.{append-nil}
use Rattle.std.proofs.lemmas.Bool.{eqb-true, eq-eqb, false≢true}
use Rattle.og_text.specs.Kinds.{number_of}
use Rattle.og_parse.proofs.Numbered.{is_symbol, same_kind}
use Rattle.og_text.specs.declared.token.TokenKind.{TokenKind}
use Rattle.og_text.specs.declared.token.Token.{Token}
use Rattle.og_text.specs.declared.place.Span.{Span}
use Rattle.og_parse.specs.declared.refusal.FaultKind.{FaultKind}
use Rattle.og_parse.specs.declared.refusal.FaultKind.TheVariants.{Expected}
use Rattle.og_parse.specs.Language.{Language, Symbol, Gives, Then, Either, Many}
use Rattle.og_parse.specs.Fronts.{Begins}
use Rattle.og_parse.specs.Reading.{Stop, Outcome, Reader, ◌>>=◌, starts, symbol_at, some_at, many_at}

-- both begin with the same token, or both are empty
abbrev pub SameHead : List Token → List Token → Type 0
SameHead [] [] = Unit {0}
SameHead [] (u ∷ us) = ⊥
SameHead (t ∷ ts) [] = ⊥
SameHead (t ∷ ts) (u ∷ us) = t ≡ u

-- what a reader took from the front, which it takes again if the next token is the same
pub record Took {X : Type 0} (read : Reader X) (is : Language X) (tokens : List Token) (x : X) (rest : List Token) : Type 0 where
  pub front : List Token
  pub parts : tokens ≡ front ++ rest
  pub is_read : is x front
  pub fixed : (other : List Token) → SameHead rest other → read (front ++ other) ≡ Ok (x, other)

-- where a reader stopped, as it does again if the next token is the same
pub record Stopped {X : Type 0} (read : Reader X) (is : Language X) (tokens : List Token) (kind : FaultKind) (rest : List Token) : Type 0 where
  pub front : List Token
  pub parts : tokens ≡ front ++ rest
  pub begins : Begins is front
  pub fixed : (other : List Token) → SameHead rest other → read (front ++ other) ≡ Err (kind, other)

pub record Laws {X : Type 0} (read : Reader X) (is : Language X) (longer : ℕ → Bool) : Type 0 where
  pub takes : (tokens : List Token) (x : X) (rest : List Token) → read tokens ≡ Ok (x, rest) → Took read is tokens x rest
  pub stops : (tokens : List Token) (kind : FaultKind) (rest : List Token) → read tokens ≡ Err (kind, rest) → Stopped read is tokens kind rest
  pub again : (x : X) (front rest : List Token) → is x front → starts longer rest ≡ false → read (front ++ rest) ≡ Ok (x, rest)

-- ---- tools

pub bind_ok : {A B : Type 0} (r : Result A Stop) (f : A → Result B Stop) (y : B) → (r >>= f) ≡ Ok y → (x : A) × (r ≡ Ok x) × (f x ≡ Ok y)
bind_ok (Ok x) f y e = (x, refl, e)
bind_ok (Err d) f y e = absurd cc

-- a step failed, or the one after it
pub bind_err : {A B : Type 0} (r : Result A Stop) (f : A → Result B Stop) (s : Stop) → (r >>= f) ≡ Err s → (r ≡ Err s) ⊎ ((x : A) × (r ≡ Ok x) × (f x ≡ Err s))
bind_err (Ok x) f s e = inr (x, refl, e)
bind_err {A} {B} (Err d) f s e = inl (let same : d ≡ s = cc in ap (λ (z : Stop). Err z) same)

abbrev pub done : {A : Type 0} → A → Result A Stop
done x = Ok x

pub ok_is : {A : Type 0} (x y : A) → done x ≡ done y → x ≡ y
ok_is x y e = cc

pub SameHead-refl : (ts : List Token) → SameHead ts ts
SameHead-refl [] = tt
SameHead-refl (t ∷ ts) = refl

-- the same front before the same head
pub SameHead-front : (front a b : List Token) → SameHead a b → SameHead (front ++ a) (front ++ b)
SameHead-front [] a b h = h
SameHead-front (t ∷ front) a b h = refl

pub starts-same : (test : ℕ → Bool) (a b : List Token) → SameHead a b → starts test a ≡ starts test b
starts-same test [] [] h = refl
starts-same test [] (u ∷ us) h = absurd h
starts-same test (t ∷ ts) [] h = absurd h
starts-same test (t ∷ ts) (u ∷ us) h = ap (λ (x : Token). test (number_of x.kind)) h

-- ---- no token

pub gives_laws : {X : Type 0} (x : X) (longer : ℕ → Bool) → Laws (λ tokens. Ok (x, tokens)) (Gives x) longer
gives_laws {X} x longer = record {
  takes = λ tokens y rest e.
      let same = ok_is (x, tokens) (y, rest) e in
      record {
        front = [];
        parts = ap (λ (p : X × List Token). p.1) same;
        is_read = (sym (ap (λ (p : X × List Token). p.0) same), refl);
        fixed = λ other h. ap (λ (z : X). done (z, other)) (ap (λ (p : X × List Token). p.0) same);
      };
  stops = λ tokens kind rest e. absurd cc;
  again = λ y front rest is ends. rw (is.0, is.1) refl;
}

-- ---- one token, and then another

module _ {A B : Type 0} {read : Reader A} {is : Language A} {longer : ℕ → Bool} (first : Laws read is longer)
    {read' : A → Reader B} {is' : A → Language B} {longer' : ℕ → Bool} (second : (a : A) → Laws (read' a) (is' a) longer') where
  abbrev both : Reader B
  both tokens = read tokens >>= λ p. read' p.0 p.1

  abbrev is_both : Language B
  is_both = Then is is'

  both_takes : (tokens : List Token) (x : B) (rest : List Token) → both tokens ≡ Ok (x, rest) → Took both is_both tokens x rest
  both_takes tokens x rest e =
      let a = bind_ok (read tokens) (λ p. read' p.0 p.1) (x, rest) e in
      let t = first.takes tokens a.0.0 a.0.1 a.1 in
      let u = (second a.0.0).takes a.0.1 x rest a.2 in
      record {
        front = t.front ++ u.front;
        parts = t.parts ∙ ap (λ (r : List Token). t.front ++ r) u.parts ∙ sym (append_assoc t.front u.front rest);
        is_read = record { head = a.0.0; front = t.front; back = u.front; parts = refl; is_first = t.is_read; is_second = u.is_read };
        fixed = λ other h.
            let same : SameHead a.0.1 (u.front ++ other) = subst (λ (r : List Token). SameHead r (u.front ++ other)) (sym u.parts) (SameHead-front u.front rest other h) in
            rw (append_assoc t.front u.front other, t.fixed (u.front ++ other) same) (u.fixed other h);
      }

  both_stops : ((a : A) → Begins (is' a) []) → (tokens : List Token) (kind : FaultKind) (rest : List Token) → both tokens ≡ Err (kind, rest) → Stopped both is_both tokens kind rest
  both_stops some tokens kind rest e =
      elim (bind_err (read tokens) (λ p. read' p.0 p.1) (kind, rest) e) [
        | inl h ↦
            let t = first.stops tokens kind rest h in
            let b = some t.begins.value in
            record {
              front = t.front;
              parts = t.parts;
              begins = record { value = b.value; tail = t.begins.tail ++ b.tail; whole = record { head = t.begins.value; front = t.front ++ t.begins.tail; back = b.tail; parts = sym (append_assoc t.front t.begins.tail b.tail); is_first = t.begins.whole; is_second = b.whole } };
              fixed = λ other same. rw (t.fixed other same) refl;
            }
        | inr a ↦
            let t = first.takes tokens a.0.0 a.0.1 a.1 in
            let u = (second a.0.0).stops a.0.1 kind rest a.2 in
            record {
              front = t.front ++ u.front;
              parts = t.parts ∙ ap (λ (r : List Token). t.front ++ r) u.parts ∙ sym (append_assoc t.front u.front rest);
              begins = record { value = u.begins.value; tail = u.begins.tail; whole = record { head = a.0.0; front = t.front; back = u.front ++ u.begins.tail; parts = append_assoc t.front u.front u.begins.tail; is_first = t.is_read; is_second = u.begins.whole } };
              fixed = λ other h.
                  let same : SameHead a.0.1 (u.front ++ other) = subst (λ (r : List Token). SameHead r (u.front ++ other)) (sym u.parts) (SameHead-front u.front rest other h) in
                  rw (append_assoc t.front u.front other, t.fixed (u.front ++ other) same) (u.fixed other h);
            }
      ]

  -- what follows doesn't go on with the first part
  abbrev Follows : Type 0
  Follows = (a : A) (b : B) (back rest : List Token) → is' a b back → starts longer' rest ≡ false → starts longer (back ++ rest) ≡ false

  pub then_laws : ((a : A) → Begins (is' a) []) → Follows → Laws both is_both longer'
  then_laws some follows = record {
    takes = both_takes;
    stops = both_stops some;
    again = λ x front rest is ends.
        let h : both (is.front ++ (is.back ++ rest)) ≡ Ok (x, rest) = rw (first.again is.head is.front (is.back ++ rest) is.is_first (follows is.head x is.back rest is.is_second ends)) ((second is.head).again x is.back rest is.is_second ends) in
        ap both (ap (λ (z : List Token). z ++ rest) is.parts ∙ append_assoc is.front is.back rest) ∙ h;
  }

-- ---- a part, whose value is seen otherwise

pub map_laws : {A B : Type 0} {read : Reader A} {is : Language A} {longer : ℕ → Bool} (f : A → B) → Laws read is longer → Laws (λ tokens. read tokens >>= λ p. Ok (f p.0, p.1)) (Then is (λ a. Gives (f a))) longer
map_laws {A} {B} {read} {is} {longer} f first = record {
  takes = λ tokens x rest e.
      let a = bind_ok (read tokens) (λ p. Ok (f p.0, p.1)) (x, rest) e in
      let t = first.takes tokens a.0.0 a.0.1 a.1 in
      let same = ok_is (f a.0.0, a.0.1) (x, rest) a.2 in
      let rest_is : a.0.1 ≡ rest = ap (λ (p : B × List Token). p.1) same in
      let value_is : f a.0.0 ≡ x = ap (λ (p : B × List Token). p.0) same in
      record {
        front = t.front;
        parts = t.parts ∙ ap (λ (r : List Token). t.front ++ r) rest_is;
        is_read = record { head = a.0.0; front = t.front; back = []; parts = sym (append-nil t.front); is_first = t.is_read; is_second = (sym value_is, refl) };
        fixed = λ other h. rw (t.fixed other (rw rest_is h)) (ap (λ (z : B). done (z, other)) value_is);
      };
  stops = λ tokens kind rest e.
      elim (bind_err (read tokens) (λ p. Ok (f p.0, p.1)) (kind, rest) e) [
        | inl h ↦
            let t = first.stops tokens kind rest h in
            record {
              front = t.front;
              parts = t.parts;
              begins = record { value = f t.begins.value; tail = t.begins.tail; whole = record { head = t.begins.value; front = t.front ++ t.begins.tail; back = []; parts = sym (append-nil (t.front ++ t.begins.tail)); is_first = t.begins.whole; is_second = (refl, refl) } };
              fixed = λ other same. rw (t.fixed other same) refl;
            }
        | inr a ↦ absurd cc
      ];
  again = λ x front rest is_x ends.
      let whole : front ≡ is_x.front = is_x.parts ∙ ap (λ (z : List Token). is_x.front ++ z) is_x.is_second.1 ∙ append-nil is_x.front in
      rw (whole, first.again is_x.head is_x.front rest is_x.is_first ends) (ap (λ (z : B). done (z, rest)) (sym is_x.is_second.0));
}

-- ---- one keyword or symbol

abbrev pub failed : {A : Type 0} → Stop → Result A Stop
failed s = Err s

pub err_is : {A : Type 0} (s t : Stop) → failed {A = A} s ≡ failed t → s ≡ t
err_is s t e = cc

-- a reader that stops at once
pub stops_here : {X : Type 0} (read : Reader X) (is : Language X) (kind : FaultKind) (tokens : List Token) → Begins is [] → ((other : List Token) → SameHead tokens other → read other ≡ Err (kind, other)) → Stopped read is tokens kind tokens
stops_here read is kind tokens some fixed = record { front = []; parts = refl; begins = some; fixed = fixed }

abbrev pub took : Token → List Token → Outcome Span
took token tokens = Ok (token.span, tokens)

abbrev pub missed : Token → List Token → Outcome Span
missed token tokens = Err (Expected, token ∷ tokens)

pub chosen_ok : (b : Bool) (token : Token) (tokens : List Token) (x : Span) (rest : List Token) → cond b (took token tokens) (missed token tokens) ≡ Ok (x, rest) → (b ≡ true) × (token.span ≡ x) × (tokens ≡ rest)
chosen_ok true token tokens x rest e = let same = ok_is (token.span, tokens) (x, rest) e in (refl, ap (λ (p : Span × List Token). p.0) same, ap (λ (p : Span × List Token). p.1) same)
chosen_ok false token tokens x rest e = absurd cc

abbrev pub stop_at : List Token → Stop
stop_at tokens = (Expected, tokens)

pub chosen_err : (b : Bool) (token : Token) (tokens : List Token) (s : Stop) → cond b (took token tokens) (missed token tokens) ≡ Err s → (b ≡ false) × (stop_at (token ∷ tokens) ≡ s)
chosen_err true token tokens s e = absurd cc
chosen_err false token tokens s e = (refl, err_is {A = Span × List Token} (stop_at (token ∷ tokens)) s e)

module _ (kind : TokenKind) (symbolic : is_symbol kind ≡ true) where
  symbol_takes : (tokens : List Token) (x : Span) (rest : List Token) → symbol_at kind tokens ≡ Ok (x, rest) → Took (symbol_at kind) (Symbol kind) tokens x rest
  symbol_takes [] x rest e = absurd cc
  symbol_takes (t ∷ ts) x rest e =
      let c = chosen_ok (eqb (number_of t.kind) (number_of kind)) t ts x rest e in
      record {
        front = t ∷ [];
        parts = ap (λ (r : List Token). t ∷ r) c.2;
        is_read = (t, refl, same_kind kind t.kind symbolic (eqb-true _ _ c.0), sym c.1);
        fixed = λ other h. rw c.0 (ap (λ (z : Span). done (z, other)) c.1);
      }

module _ (kind : TokenKind) where
  missed_nil : (other : List Token) → SameHead [] other → symbol_at kind other ≡ Err (stop_at other)
  missed_nil [] h = refl
  missed_nil (u ∷ us) h = absurd h

  missed_cons : (t : Token) (ts other : List Token) → eqb (number_of t.kind) (number_of kind) ≡ false → SameHead (t ∷ ts) other → symbol_at kind other ≡ Err (stop_at other)
  missed_cons t ts [] differs h = absurd h
  missed_cons t ts (u ∷ us) differs h = rw (← h, differs) refl

  symbol_stops : Begins (Symbol kind) [] → (tokens : List Token) (s : Stop) → symbol_at kind tokens ≡ Err s → Stopped (symbol_at kind) (Symbol kind) tokens s.0 s.1
  symbol_stops some [] s e = subst (λ (z : Stop). Stopped (symbol_at kind) (Symbol kind) [] z.0 z.1) (err_is {A = Span × List Token} (stop_at []) s e) (stops_here (symbol_at kind) (Symbol kind) Expected [] some missed_nil)
  symbol_stops some (t ∷ ts) s e =
      let c = chosen_err (eqb (number_of t.kind) (number_of kind)) t ts s e in
      subst (λ (z : Stop). Stopped (symbol_at kind) (Symbol kind) (t ∷ ts) z.0 z.1) c.1 (stops_here (symbol_at kind) (Symbol kind) Expected (t ∷ ts) some (λ other h. missed_cons t ts other c.0 h))

  symbol_again : (x : Span) (front rest : List Token) → Symbol kind x front → symbol_at kind (front ++ rest) ≡ Ok (x, rest)
  symbol_again x front rest is = rw (is.1, is.3) (read_one is.0 (ap number_of is.2)) where
    read_one : (token : Token) → number_of token.kind ≡ number_of kind → symbol_at kind (token ∷ rest) ≡ Ok (token.span, rest)
    read_one token same = rw (eq-eqb _ _ same) refl

-- some token of the kind
abbrev sample : TokenKind → Token
sample kind = record { kind = kind; span = record { start = 0; end = 0 } }

pub symbol_some : (kind : TokenKind) → Begins (Symbol kind) []
symbol_some kind = record { value = record { start = 0; end = 0 }; tail = sample kind ∷ []; whole = (sample kind, refl, refl, refl) }

pub symbol_laws : (kind : TokenKind) → is_symbol kind ≡ true → (longer : ℕ → Bool) → Laws (symbol_at kind) (Symbol kind) longer
symbol_laws kind symbolic longer = record {
  takes = symbol_takes kind symbolic;
  stops = λ tokens fault rest e. symbol_stops kind (symbol_some kind) tokens (fault, rest) e;
  again = λ x front rest is ends. symbol_again kind x front rest is;
}

-- ---- two ways, by the first token

-- each list of the language begins with a token that passes
pub record Starts {X : Type 0} (is : Language X) (test : ℕ → Bool) : Type 0 where
  pub starting : (x : X) (front rest : List Token) → is x front → starts test (front ++ rest) ≡ true

-- no list of the language begins with a token that passes, nor what follows it
pub record Avoids {X : Type 0} (is : Language X) (test longer : ℕ → Bool) : Type 0 where
  pub avoiding : (x : X) (front rest : List Token) → is x front → starts longer rest ≡ false → starts test (front ++ rest) ≡ false

pub chosen : {A : Type 0} (b : Bool) (x y z : A) → cond b x y ≡ z → ((b ≡ true) × (x ≡ z)) ⊎ ((b ≡ false) × (y ≡ z))
chosen true x y z e = inl (refl, e)
chosen false x y z e = inr (refl, e)

module _ {X : Type 0} (test : ℕ → Bool) {read : Reader X} {is : Language X} {longer : ℕ → Bool} (one : Laws read is longer) {read' : Reader X} {is' : Language X} (other : Laws read' is' longer) where
  abbrev pick : Reader X
  pick tokens = cond (starts test tokens) (read tokens) (read' tokens)

  abbrev is_either : Language X
  is_either = Either is is'

  -- the choice is the same before the same head
  same_choice : (front rest others : List Token) → SameHead rest others → starts test (front ++ rest) ≡ starts test (front ++ others)
  same_choice front rest others h = starts-same test (front ++ rest) (front ++ others) (SameHead-front front rest others h)

  pick_takes : (tokens : List Token) (x : X) (rest : List Token) → pick tokens ≡ Ok (x, rest) → Took pick is_either tokens x rest
  pick_takes tokens x rest e =
      elim (chosen (starts test tokens) (read tokens) (read' tokens) (Ok (x, rest)) e) [
        | inl h ↦
            let t = one.takes tokens x rest h.1 in
            record {
              front = t.front;
              parts = t.parts;
              is_read = inl t.is_read;
              fixed = λ others same.
                  let b : starts test (t.front ++ others) ≡ true = sym (same_choice t.front rest others same) ∙ ap (starts test) (sym t.parts) ∙ h.0 in
                  rw b (t.fixed others same);
            }
        | inr h ↦
            let t = other.takes tokens x rest h.1 in
            record {
              front = t.front;
              parts = t.parts;
              is_read = inr t.is_read;
              fixed = λ others same.
                  let b : starts test (t.front ++ others) ≡ false = sym (same_choice t.front rest others same) ∙ ap (starts test) (sym t.parts) ∙ h.0 in
                  rw b (t.fixed others same);
            }
      ]

  pick_stops : (tokens : List Token) (kind : FaultKind) (rest : List Token) → pick tokens ≡ Err (kind, rest) → Stopped pick is_either tokens kind rest
  pick_stops tokens kind rest e =
      elim (chosen (starts test tokens) (read tokens) (read' tokens) (Err (kind, rest)) e) [
        | inl h ↦
            let t = one.stops tokens kind rest h.1 in
            record {
              front = t.front;
              parts = t.parts;
              begins = record { value = t.begins.value; tail = t.begins.tail; whole = inl t.begins.whole };
              fixed = λ others same.
                  let b : starts test (t.front ++ others) ≡ true = sym (same_choice t.front rest others same) ∙ ap (starts test) (sym t.parts) ∙ h.0 in
                  rw b (t.fixed others same);
            }
        | inr h ↦
            let t = other.stops tokens kind rest h.1 in
            record {
              front = t.front;
              parts = t.parts;
              begins = record { value = t.begins.value; tail = t.begins.tail; whole = inr t.begins.whole };
              fixed = λ others same.
                  let b : starts test (t.front ++ others) ≡ false = sym (same_choice t.front rest others same) ∙ ap (starts test) (sym t.parts) ∙ h.0 in
                  rw b (t.fixed others same);
            }
      ]

  pub either_laws : Starts is test → Avoids is' test longer → Laws pick is_either longer
  either_laws starts_one avoids = record {
    takes = pick_takes;
    stops = pick_stops;
    again = λ x front rest is_x ends.
        elim is_x [
          | inl h ↦ rw (starts_one.starting x front rest h) (one.again x front rest h ends)
          | inr h ↦ rw (avoids.avoiding x front rest h ends) (other.again x front rest h ends)
        ];
  }

-- a token that begins a part doesn't go on with the part before it, and both may not follow the last
pub record Apart (test longer after : ℕ → Bool) : Type 0 where
  pub opens : (tokens : List Token) → starts test tokens ≡ true → starts longer tokens ≡ false
  pub follows : (tokens : List Token) → starts after tokens ≡ false → (starts test tokens ≡ false) × (starts longer tokens ≡ false)

-- ---- any number of parts

pub many_avoids : {X : Type 0} {is : Language X} {test longer after : ℕ → Bool} → Starts is test → Apart test longer after → Avoids (Many is) longer after
many_avoids {X} {is} {test} {longer} {after} starts_each apart = record { avoiding = λ xs front rest is_xs ends. go xs front rest is_xs ends } where
  go : (xs : List X) (front rest : List Token) → Many is xs front → starts after rest ≡ false → starts longer (front ++ rest) ≡ false
  go [] front rest is_xs ends = rw is_xs (apart.follows rest ends).1
  go (x ∷ xs) front rest is_xs ends =
      let regroup : front ++ rest ≡ is_xs.0 ++ (is_xs.1 ++ rest) = ap (λ (z : List Token). z ++ rest) is_xs.2 ∙ append_assoc is_xs.0 is_xs.1 rest in
      rw regroup (apart.opens (is_xs.0 ++ (is_xs.1 ++ rest)) (starts_each.starting x is_xs.0 (is_xs.1 ++ rest) is_xs.3))

module _ {X : Type 0} (test : ℕ → Bool) {read : Reader X} {is : Language X} {longer : ℕ → Bool} (each : Laws read is longer) (starts_each : Starts is test) where
  abbrev some : ℕ → Reader (List X)
  some n = some_at test read n

  -- none where the next token doesn't pass
  some_none : (n : ℕ) (tokens : List Token) → starts test tokens ≡ false → some n tokens ≡ Ok ([], tokens)
  some_none zero tokens h = refl
  some_none (suc n) tokens h = rw h refl

  nil_fits : (tokens : List Token) → length tokens ≤ 0 → tokens ≡ []
  nil_fits [] h = refl
  nil_fits (t ∷ ts) h = absurd (omega arith)

  nil_starts : (tokens : List Token) → starts test tokens ≡ true → 1 ≤ length tokens
  nil_starts [] h = absurd (false≢true h)
  nil_starts (t ∷ ts) h = omega arith

  -- a part has a token
  one_token : (x : X) (front : List Token) → is x front → 1 ≤ length front
  one_token x front h = nil_starts front (subst (λ (z : List Token). starts test z ≡ true) (append-nil front) (starts_each.starting x front [] h))

  record TookMany (tokens : List Token) (xs : List X) (rest : List Token) : Type 0 where
    front : List Token
    parts : tokens ≡ front ++ rest
    is_read : Many is xs front
    fixed : (other : List Token) (m : ℕ) → SameHead rest other → length (front ++ other) ≤ m → some m (front ++ other) ≡ Ok (xs, other)

  record StoppedMany (tokens : List Token) (kind : FaultKind) (rest : List Token) : Type 0 where
    front : List Token
    parts : tokens ≡ front ++ rest
    begins : Begins (Many is) front
    fixed : (other : List Token) (m : ℕ) → SameHead rest other → length (front ++ other) ≤ m → some m (front ++ other) ≡ Err (kind, other)

  took_none : (tokens : List Token) → starts test tokens ≡ false → TookMany tokens [] tokens
  took_none tokens ends = record {
    front = [];
    parts = refl;
    is_read = refl;
    fixed = λ other m h fits. some_none m other (sym (starts-same test tokens other h) ∙ ends);
  }

  -- one more part, read with more to come
  one_more : (tokens : List Token) (x : X) (mid : List Token) (t : Took read is tokens x mid) → starts test tokens ≡ true
      → (back others : List Token) → SameHead mid (back ++ others) → (m : ℕ) → length ((t.front ++ back) ++ others) ≤ m
      → (r : Outcome (List X)) → ((k : ℕ) → length (back ++ others) ≤ k → some k (back ++ others) ≡ r)
      → some m ((t.front ++ back) ++ others) ≡ (r >>= λ ys. Ok (x ∷ ys.0, ys.1))
  one_more tokens x mid t goes back others same zero fits r behind =
      absurd (omega (arith, one_token x t.front t.is_read, length-append (t.front ++ back) others, length-append t.front back))
  one_more tokens x mid t goes back others same (suc m) fits r behind =
      let regroup : (t.front ++ back) ++ others ≡ t.front ++ (back ++ others) = append_assoc t.front back others in
      let passes : starts test (t.front ++ (back ++ others)) ≡ true = sym (starts-same test (t.front ++ mid) (t.front ++ (back ++ others)) (SameHead-front t.front mid (back ++ others) same)) ∙ ap (starts test) (sym t.parts) ∙ goes in
      let fewer : length (back ++ others) ≤ m = omega (arith, one_token x t.front t.is_read, length-append (t.front ++ back) others, length-append t.front back, length-append back others) in
      ap (some (suc m)) regroup ∙ rw (passes, t.fixed (back ++ others) same, behind m fewer) refl

  stops_in_part : (tokens : List Token) (s : Stop) (t : Stopped read is tokens s.0 s.1) → starts test tokens ≡ true → (other : List Token) → SameHead s.1 other → (m : ℕ) → length (t.front ++ other) ≤ m → some m (t.front ++ other) ≡ Err (s.0, other)
  stops_in_part tokens s t goes other same m fits =
      let passes : starts test (t.front ++ other) ≡ true = sym (starts-same test (t.front ++ s.1) (t.front ++ other) (SameHead-front t.front s.1 other same)) ∙ ap (starts test) (sym t.parts) ∙ goes in
      go m (nil_starts (t.front ++ other) passes) fits passes where
        go : (m : ℕ) → 1 ≤ length (t.front ++ other) → length (t.front ++ other) ≤ m → starts test (t.front ++ other) ≡ true → some m (t.front ++ other) ≡ Err (s.0, other)
        go zero long fits passes = absurd (omega arith)
        go (suc m) long fits passes = rw (passes, t.fixed other same) refl

  some_takes : (n : ℕ) (tokens : List Token) (xs : List X) (rest : List Token) → length tokens ≤ n → some n tokens ≡ Ok (xs, rest) → TookMany tokens xs rest
  some_takes zero tokens xs rest fits e =
      let same = ok_is ([], tokens) (xs, rest) e in
      subst (λ (p : List X × List Token). TookMany tokens p.0 p.1) same (took_none tokens (ap (starts test) (nil_fits tokens fits)))
  some_takes (suc n) tokens xs rest fits e =
      elim (chosen (starts test tokens) (read tokens >>= λ x. some n x.1 >>= λ ys. Ok (x.0 ∷ ys.0, ys.1)) (Ok ([], tokens)) (Ok (xs, rest)) e) [
        | inl h ↦
            let a = bind_ok (read tokens) (λ x. some n x.1 >>= λ ys. Ok (x.0 ∷ ys.0, ys.1)) (xs, rest) h.1 in
            let b = bind_ok (some n a.0.1) (λ ys. Ok (a.0.0 ∷ ys.0, ys.1)) (xs, rest) a.2 in
            let t = each.takes tokens a.0.0 a.0.1 a.1 in
            let fewer : length a.0.1 ≤ n = omega (arith, one_token a.0.0 t.front t.is_read, ap length t.parts, length-append t.front a.0.1) in
            let u = some_takes n a.0.1 b.0.0 b.0.1 fewer b.1 in
            let made : List X × List Token = (a.0.0 ∷ b.0.0, b.0.1) in
            subst (λ (p : List X × List Token). TookMany tokens p.0 p.1) (ok_is made (xs, rest) b.2) (record {
              front = t.front ++ u.front;
              parts = t.parts ∙ ap (λ (r : List Token). t.front ++ r) u.parts ∙ sym (append_assoc t.front u.front b.0.1);
              is_read = (t.front, u.front, refl, t.is_read, u.is_read);
              fixed = λ other m same long.
                  let head : SameHead a.0.1 (u.front ++ other) = subst (λ (r : List Token). SameHead r (u.front ++ other)) (sym u.parts) (SameHead-front u.front b.0.1 other same) in
                  one_more tokens a.0.0 a.0.1 t h.0 u.front other head m long (Ok (b.0.0, other)) (λ k le. u.fixed other k same le);
            })
        | inr h ↦ subst (λ (p : List X × List Token). TookMany tokens p.0 p.1) (ok_is ([], tokens) (xs, rest) h.1) (took_none tokens h.0)
      ]

  some_stops : (n : ℕ) (tokens : List Token) (s : Stop) → length tokens ≤ n → some n tokens ≡ Err s → StoppedMany tokens s.0 s.1
  some_stops zero tokens s fits e = absurd cc
  some_stops (suc n) tokens s fits e =
      elim (chosen (starts test tokens) (read tokens >>= λ x. some n x.1 >>= λ ys. Ok (x.0 ∷ ys.0, ys.1)) (Ok ([], tokens)) (Err s) e) [
        | inl h ↦
            elim (bind_err (read tokens) (λ x. some n x.1 >>= λ ys. Ok (x.0 ∷ ys.0, ys.1)) s h.1) [
              | inl g ↦
                  let t = each.stops tokens s.0 s.1 g in
                  record {
                    front = t.front;
                    parts = t.parts;
                    begins = record { value = t.begins.value ∷ []; tail = t.begins.tail; whole = (t.front ++ t.begins.tail, [], sym (append-nil (t.front ++ t.begins.tail)), t.begins.whole, refl) };
                    fixed = λ other m same long. stops_in_part tokens s t h.0 other same m long;
                  }
              | inr a ↦
                  let t = each.takes tokens a.0.0 a.0.1 a.1 in
                  let fewer : length a.0.1 ≤ n = omega (arith, one_token a.0.0 t.front t.is_read, ap length t.parts, length-append t.front a.0.1) in
                  elim (bind_err (some n a.0.1) (λ ys. Ok (a.0.0 ∷ ys.0, ys.1)) s a.2) [
                    | inl g ↦
                        let u = some_stops n a.0.1 s fewer g in
                        record {
                          front = t.front ++ u.front;
                          parts = t.parts ∙ ap (λ (r : List Token). t.front ++ r) u.parts ∙ sym (append_assoc t.front u.front s.1);
                          begins = record { value = a.0.0 ∷ u.begins.value; tail = u.begins.tail; whole = (t.front, u.front ++ u.begins.tail, append_assoc t.front u.front u.begins.tail, t.is_read, u.begins.whole) };
                          fixed = λ other m same long.
                              let head : SameHead a.0.1 (u.front ++ other) = subst (λ (r : List Token). SameHead r (u.front ++ other)) (sym u.parts) (SameHead-front u.front s.1 other same) in
                              one_more tokens a.0.0 a.0.1 t h.0 u.front other head m long (Err (s.0, other)) (λ k le. u.fixed other k same le);
                        }
                    | inr b ↦ absurd cc
                  ]
            ]
        | inr h ↦ absurd cc
      ]

  some_again : (after : ℕ → Bool) → Apart test longer after → (xs : List X) (front rest : List Token) → Many is xs front → starts after rest ≡ false → (m : ℕ) → length (front ++ rest) ≤ m → some m (front ++ rest) ≡ Ok (xs, rest)
  some_again after apart [] front rest is_xs ends m fits = rw is_xs (some_none m rest (apart.follows rest ends).0)
  some_again after apart (x ∷ xs) front rest is_xs ends zero fits =
      absurd (omega (arith, one_token x is_xs.0 is_xs.3, ap length is_xs.2, length-append front rest, length-append is_xs.0 is_xs.1))
  some_again after apart (x ∷ xs) front rest is_xs ends (suc m) fits =
      let regroup : front ++ rest ≡ is_xs.0 ++ (is_xs.1 ++ rest) = ap (λ (z : List Token). z ++ rest) is_xs.2 ∙ append_assoc is_xs.0 is_xs.1 rest in
      let passes : starts test (is_xs.0 ++ (is_xs.1 ++ rest)) ≡ true = starts_each.starting x is_xs.0 (is_xs.1 ++ rest) is_xs.3 in
      let one : read (is_xs.0 ++ (is_xs.1 ++ rest)) ≡ Ok (x, is_xs.1 ++ rest) = each.again x is_xs.0 (is_xs.1 ++ rest) is_xs.3 ((many_avoids starts_each apart).avoiding xs is_xs.1 rest is_xs.4 ends) in
      let fewer : length (is_xs.1 ++ rest) ≤ m = omega (arith, one_token x is_xs.0 is_xs.3, ap length regroup, length-append is_xs.0 (is_xs.1 ++ rest)) in
      ap (some (suc m)) regroup ∙ rw (passes, one, some_again after apart xs is_xs.1 rest is_xs.4 ends m fewer) refl

  pub many_laws : (after : ℕ → Bool) → Apart test longer after → Laws (many_at test read) (Many is) after
  many_laws after apart = record {
    takes = λ tokens xs rest e.
        let t = some_takes (length tokens) tokens xs rest (omega arith) e in
        record { front = t.front; parts = t.parts; is_read = t.is_read; fixed = λ other h. t.fixed other (length (t.front ++ other)) h (omega arith) };
    stops = λ tokens kind rest e.
        let t = some_stops (length tokens) tokens (kind, rest) (omega arith) e in
        record { front = t.front; parts = t.parts; begins = t.begins; fixed = λ other h. t.fixed other (length (t.front ++ other)) h (omega arith) };
    again = λ xs front rest is_xs ends. some_again after apart xs front rest is_xs ends (length (front ++ rest)) (omega arith);
  }
