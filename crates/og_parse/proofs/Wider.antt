-- A reader with more room reads the same, and goes on where the other had none.
use Rattle.std.proofs.Common.{◌≡◌, ℕ, zero, suc, Bool, cond, List, [], ◌∷◌, ◌++◌, length, Ok, Err, refl, sym, ap, ◌∙◌, append_assoc, inl, inr, ◌⊎◌}
use Rattle.std.proofs.lemmas.List.{append-nil}
use Rattle.og_text.specs.declared.token.Token.{Token}
use Rattle.og_parse.specs.declared.refusal.FaultKind.{FaultKind}
use Rattle.og_parse.specs.declared.refusal.FaultKind.TheVariants.{Expected, TooDeep}
use Rattle.og_parse.specs.Language.{Language, Gives, Then, Either, Many}
use Rattle.og_parse.specs.Fronts.{Begins}
use Rattle.og_parse.specs.Reading.{Stop, Reader, ◌>>=◌, starts, some_at, many_at}
use Rattle.og_parse.proofs.Languages.{Laws, bind_ok, bind_err, chosen}

-- some list of the language begins with the tokens up to the one where a reader stopped, that one too
pub record GoesOn {X : Type 0} (is : Language X) (tokens rest : List Token) : Type 0 where
  pub front : List Token
  pub token : Token
  pub after : List Token
  pub parts : tokens ≡ front ++ token ∷ after
  pub rest_is : rest ≡ token ∷ after
  pub begins : Begins is (front ++ token ∷ [])

-- a fault of a limit
abbrev pub IsLimit : FaultKind → Type 0
IsLimit Expected = ⊥
IsLimit TooDeep = Unit {0}

-- the same fault, or a limit's, which is none for the other reader where that one has more room
abbrev pub Faults : Type 0 → {X : Type 0} → Reader X → Language X → List Token → Stop → Type 0
Faults More wide is tokens s = ((s.0 ≡ Expected) × (wide tokens ≡ Err s)) ⊎ (IsLimit s.0 × (More → GoesOn is tokens s.1))

pub record Widens (More : Type 0) {X : Type 0} (read wide : Reader X) (is : Language X) : Type 0 where
  pub keeps : (tokens : List Token) (y : X × List Token) → read tokens ≡ Ok y → wide tokens ≡ Ok y
  pub faults : (tokens : List Token) (s : Stop) → read tokens ≡ Err s → Faults More wide is tokens s

-- a reader with no limit
pub plain_widens : {More : Type 0} {X : Type 0} (read : Reader X) (is : Language X) → ((tokens : List Token) (s : Stop) → read tokens ≡ Err s → s.0 ≡ Expected) → Widens More read read is
plain_widens read is plain = record { keeps = λ tokens y e. e; faults = λ tokens s e. inl (plain tokens s e, e) }

pub gives_widens : {More : Type 0} {X : Type 0} (x : X) → Widens More (λ tokens. Ok (x, tokens)) (λ tokens. Ok (x, tokens)) (Gives x)
gives_widens {X} x = plain_widens (λ tokens. Ok (x, tokens)) (Gives x) (λ tokens s e. absurd cc)

-- a fault in the first part
pub first_goes_on : {A B : Type 0} {is : Language A} {is' : A → Language B} → ((a : A) → Begins (is' a) []) → (tokens rest : List Token) → GoesOn is tokens rest → GoesOn (Then is is') tokens rest
first_goes_on some tokens rest g =
    let b = some g.begins.value in
    let here = g.front ++ g.token ∷ [] in
    record {
      front = g.front;
      token = g.token;
      after = g.after;
      parts = g.parts;
      rest_is = g.rest_is;
      begins = record { value = b.value; tail = g.begins.tail ++ b.tail; whole = record { head = g.begins.value; front = here ++ g.begins.tail; back = b.tail; parts = sym (append_assoc here g.begins.tail b.tail); is_first = g.begins.whole; is_second = b.whole } };
    }

pub map_widens : {More : Type 0} {A B : Type 0} {read wide : Reader A} {is : Language A} (f : A → B) → Widens More read wide is → Widens More (λ tokens. read tokens >>= λ p. Ok (f p.0, p.1)) (λ tokens. wide tokens >>= λ p. Ok (f p.0, p.1)) (Then is (λ a. Gives (f a)))
map_widens {A} {B} {read} {wide} {is} f one = record {
  keeps = λ tokens y e. let a = bind_ok (read tokens) (λ p. Ok (f p.0, p.1)) y e in rw (one.keeps tokens a.0 a.1) a.2;
  faults = λ tokens s e. elim (bind_err (read tokens) (λ p. Ok (f p.0, p.1)) s e) [
    | inl h ↦ elim (one.faults tokens s h) [
      | inl k ↦ inl (k.0, rw k.1 refl)
      | inr g ↦ inr (g.0, λ more. first_goes_on (λ a. record { value = f a; tail = []; whole = (refl, refl) }) tokens s.1 (g.1 more))
    ]
    | inr a ↦ absurd cc
  ];
}

module _ {More : Type 0} {A B : Type 0} {read wide : Reader A} {is : Language A} {longer : ℕ → Bool} (first : Widens More read wide is) (laws : Laws wide is longer)
    {read' wide' : A → Reader B} {is' : A → Language B} (second : (a : A) → Widens More (read' a) (wide' a) (is' a)) (some : (a : A) → Begins (is' a) []) where
  abbrev both : Reader B
  both tokens = read tokens >>= λ p. read' p.0 p.1

  abbrev wide_both : Reader B
  wide_both tokens = wide tokens >>= λ p. wide' p.0 p.1

  both_keeps : (tokens : List Token) (y : B × List Token) → both tokens ≡ Ok y → wide_both tokens ≡ Ok y
  both_keeps tokens y e =
      let a = bind_ok (read tokens) (λ p. read' p.0 p.1) y e in
      rw (first.keeps tokens a.0 a.1) ((second a.0.0).keeps a.0.1 y a.2)

  second_goes_on : (tokens : List Token) (a : A) (mid rest : List Token) → wide tokens ≡ Ok (a, mid) → GoesOn (is' a) mid rest → GoesOn (Then is is') tokens rest
  second_goes_on tokens a mid rest e g =
      let t = laws.takes tokens a mid e in
      let here = g.front ++ g.token ∷ [] in
      record {
        front = t.front ++ g.front;
        token = g.token;
        after = g.after;
        parts = t.parts ∙ ap (λ (r : List Token). t.front ++ r) g.parts ∙ sym (append_assoc t.front g.front (g.token ∷ g.after));
        rest_is = g.rest_is;
        begins = record { value = g.begins.value; tail = g.begins.tail; whole = record { head = a; front = t.front; back = here ++ g.begins.tail; parts = ap (λ (z : List Token). z ++ g.begins.tail) (append_assoc t.front g.front (g.token ∷ [])) ∙ append_assoc t.front here g.begins.tail; is_first = t.is_read; is_second = g.begins.whole } };
      }

  both_faults : (tokens : List Token) (s : Stop) → both tokens ≡ Err s → Faults More wide_both (Then is is') tokens s
  both_faults tokens s e =
      elim (bind_err (read tokens) (λ p. read' p.0 p.1) s e) [
        | inl h ↦
            elim (first.faults tokens s h) [
              | inl k ↦ inl (k.0, rw k.1 refl)
              | inr g ↦ inr (g.0, λ more. first_goes_on some tokens s.1 (g.1 more))
            ]
        | inr a ↦
            let kept = first.keeps tokens a.0 a.1 in
            elim ((second a.0.0).faults a.0.1 s a.2) [
              | inl k ↦ inl (k.0, rw kept k.1)
              | inr g ↦ inr (g.0, λ more. second_goes_on tokens a.0.0 a.0.1 s.1 kept (g.1 more))
            ]
      ]

  pub then_widens : Widens More both wide_both (Then is is')
  then_widens = record { keeps = both_keeps; faults = both_faults }

module _ {More : Type 0} {X : Type 0} (test : ℕ → Bool) {read wide : Reader X} {is : Language X} (one : Widens More read wide is) {read' wide' : Reader X} {is' : Language X} (other : Widens More read' wide' is') where
  pub either_widens : Widens More (λ tokens. cond (starts test tokens) (read tokens) (read' tokens)) (λ tokens. cond (starts test tokens) (wide tokens) (wide' tokens)) (Either is is')
  either_widens = record {
    keeps = λ tokens y e. elim (chosen (starts test tokens) (read tokens) (read' tokens) (Ok y) e) [
      | inl h ↦ rw h.0 (one.keeps tokens y h.1)
      | inr h ↦ rw h.0 (other.keeps tokens y h.1)
    ];
    faults = λ tokens s e. elim (chosen (starts test tokens) (read tokens) (read' tokens) (Err s) e) [
      | inl h ↦ elim (one.faults tokens s h.1) [ inl k ↦ inl (k.0, rw h.0 k.1) | inr g ↦ inr (g.0, λ more. left_goes_on tokens s.1 (g.1 more)) ]
      | inr h ↦ elim (other.faults tokens s h.1) [ inl k ↦ inl (k.0, rw h.0 k.1) | inr g ↦ inr (g.0, λ more. right_goes_on tokens s.1 (g.1 more)) ]
    ];
  } where
    left_goes_on : (tokens rest : List Token) → GoesOn is tokens rest → GoesOn (Either is is') tokens rest
    left_goes_on tokens rest g = record { front = g.front; token = g.token; after = g.after; parts = g.parts; rest_is = g.rest_is; begins = record { value = g.begins.value; tail = g.begins.tail; whole = inl g.begins.whole } }

    right_goes_on : (tokens rest : List Token) → GoesOn is' tokens rest → GoesOn (Either is is') tokens rest
    right_goes_on tokens rest g = record { front = g.front; token = g.token; after = g.after; parts = g.parts; rest_is = g.rest_is; begins = record { value = g.begins.value; tail = g.begins.tail; whole = inr g.begins.whole } }

module _ {More : Type 0} {X : Type 0} (test : ℕ → Bool) {read wide : Reader X} {is : Language X} {longer : ℕ → Bool} (each : Widens More read wide is) (laws : Laws wide is longer) where
  abbrev some : ℕ → Reader (List X)
  some n = some_at test read n

  abbrev wide_some : ℕ → Reader (List X)
  wide_some n = some_at test wide n

  part_goes_on : (tokens rest : List Token) → GoesOn is tokens rest → GoesOn (Many is) tokens rest
  part_goes_on tokens rest g =
      let here = (g.front ++ g.token ∷ []) ++ g.begins.tail in
      record { front = g.front; token = g.token; after = g.after; parts = g.parts; rest_is = g.rest_is; begins = record { value = g.begins.value ∷ []; tail = g.begins.tail; whole = (here, [], sym (append-nil here), g.begins.whole, refl) } }

  later_goes_on : (tokens : List Token) (x : X) (mid rest : List Token) → wide tokens ≡ Ok (x, mid) → GoesOn (Many is) mid rest → GoesOn (Many is) tokens rest
  later_goes_on tokens x mid rest e g =
      let t = laws.takes tokens x mid e in
      let here = g.front ++ g.token ∷ [] in
      record {
        front = t.front ++ g.front;
        token = g.token;
        after = g.after;
        parts = t.parts ∙ ap (λ (r : List Token). t.front ++ r) g.parts ∙ sym (append_assoc t.front g.front (g.token ∷ g.after));
        rest_is = g.rest_is;
        begins = record { value = x ∷ g.begins.value; tail = g.begins.tail; whole = (t.front, here ++ g.begins.tail, ap (λ (z : List Token). z ++ g.begins.tail) (append_assoc t.front g.front (g.token ∷ [])) ∙ append_assoc t.front here g.begins.tail, t.is_read, g.begins.whole) };
      }

  some_keeps : (n : ℕ) (tokens : List Token) (y : List X × List Token) → some n tokens ≡ Ok y → wide_some n tokens ≡ Ok y
  some_keeps zero tokens y e = e
  some_keeps (suc n) tokens y e =
      elim (chosen (starts test tokens) (read tokens >>= λ x. some n x.1 >>= λ ys. Ok (x.0 ∷ ys.0, ys.1)) (Ok ([], tokens)) (Ok y) e) [
        | inl h ↦
            let a = bind_ok (read tokens) (λ x. some n x.1 >>= λ ys. Ok (x.0 ∷ ys.0, ys.1)) y h.1 in
            let b = bind_ok (some n a.0.1) (λ ys. Ok (a.0.0 ∷ ys.0, ys.1)) y a.2 in
            rw (h.0, each.keeps tokens a.0 a.1, some_keeps n a.0.1 b.0 b.1) b.2
        | inr h ↦ rw h.0 h.1
      ]

  some_faults : (n : ℕ) (tokens : List Token) (s : Stop) → some n tokens ≡ Err s → Faults More (wide_some n) (Many is) tokens s
  some_faults zero tokens s e = absurd cc
  some_faults (suc n) tokens s e =
      elim (chosen (starts test tokens) (read tokens >>= λ x. some n x.1 >>= λ ys. Ok (x.0 ∷ ys.0, ys.1)) (Ok ([], tokens)) (Err s) e) [
        | inl h ↦
            elim (bind_err (read tokens) (λ x. some n x.1 >>= λ ys. Ok (x.0 ∷ ys.0, ys.1)) s h.1) [
              | inl g ↦ elim (each.faults tokens s g) [ inl k ↦ inl (k.0, rw (h.0, k.1) refl) | inr p ↦ inr (p.0, λ more. part_goes_on tokens s.1 (p.1 more)) ]
              | inr a ↦
                  let kept = each.keeps tokens a.0 a.1 in
                  elim (bind_err (some n a.0.1) (λ ys. Ok (a.0.0 ∷ ys.0, ys.1)) s a.2) [
                    | inl g ↦ elim (some_faults n a.0.1 s g) [ inl k ↦ inl (k.0, rw (h.0, kept, k.1) refl) | inr p ↦ inr (p.0, λ more. later_goes_on tokens a.0.0 a.0.1 s.1 kept (p.1 more)) ]
                    | inr b ↦ absurd cc
                  ]
            ]
        | inr h ↦ absurd cc
      ]

  pub many_widens : Widens More (many_at test read) (many_at test wide) (Many is)
  many_widens = record { keeps = λ tokens y e. some_keeps (length tokens) tokens y e; faults = λ tokens s e. some_faults (length tokens) tokens s e }
