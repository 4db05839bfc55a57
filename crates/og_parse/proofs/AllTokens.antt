-- Reading all of the tokens, by readers that differ in how many levels they open.
use Rattle.std.proofs.Common.{◌≡◌, ℕ, ◌+◌, ◌≤◌, ◌<◌, Bool, true, false, List, [], ◌∷◌, ◌++◌, length, Ok, Err, refl, sym, ap, subst, ◌∙◌, append_assoc, arith, inl, inr}
use Rattle.std.proofs.lemmas.List.{append-nil, append_cancel_right}
use Rattle.std.proofs.lemmas.Bool.{false≢true}
use Rattle.og_text.specs.declared.token.Token.{Token}
use Rattle.og_parse.specs.declared.refusal.FaultKind.{FaultKind}
use Rattle.og_parse.specs.declared.refusal.FaultKind.TheVariants.{Expected, TooDeep}
use Rattle.og_parse.specs.Language.{Language, Gives, Then}
use Rattle.og_parse.specs.Fronts.{Begins}
use Rattle.og_parse.specs.Reading.{Stop, Reader, starts, end_at, whole_at}
use Rattle.og_parse.proofs.Languages.{SameHead, Took, Stopped, Laws, Avoids, stops_here, bind_ok, ok_is, err_is, done, failed}
use Rattle.og_parse.proofs.More.{gives_some}
use Rattle.og_parse.proofs.Wider.{GoesOn, IsLimit, plain_widens}
use Rattle.og_parse.proofs.Bundle.{Reads, then_reads}

-- ---- the end

abbrev any : ℕ → Bool
any n = true

any_false : (tokens : List Token) → starts any tokens ≡ false → tokens ≡ []
any_false [] h = refl
any_false (t ∷ ts) h = absurd (false≢true (sym h))

abbrev pub here : List Token → Stop
here tokens = (Expected, tokens)

end_fixed : {X : Type 0} (x : X) (t : Token) (ts other : List Token) → SameHead (t ∷ ts) other → end_at x other ≡ Err (here other)
end_fixed x t ts [] h = absurd h
end_fixed x t ts (u ∷ us) h = refl

end_nil : {X : Type 0} (x : X) (other : List Token) → SameHead [] other → end_at x other ≡ Ok (x, other)
end_nil x [] h = refl
end_nil x (u ∷ us) h = absurd h

end_takes : {X : Type 0} (x : X) (tokens : List Token) (p : X × List Token) → end_at x tokens ≡ Ok p → Took (end_at x) (Gives x) tokens p.0 p.1
end_takes {X} x [] p e = subst (λ (q : X × List Token). Took (end_at x) (Gives x) [] q.0 q.1) (ok_is (x, []) p e) (record { front = []; parts = refl; is_read = (refl, refl); fixed = end_nil x })
end_takes x (t ∷ ts) p e = absurd cc

end_stops : {X : Type 0} (x : X) (tokens : List Token) (s : Stop) → end_at x tokens ≡ Err s → Stopped (end_at x) (Gives x) tokens s.0 s.1
end_stops x [] s e = absurd cc
end_stops {X} x (t ∷ ts) s e = subst (λ (z : Stop). Stopped (end_at x) (Gives x) (t ∷ ts) z.0 z.1) (err_is {A = X × List Token} (here (t ∷ ts)) s e) (stops_here (end_at x) (Gives x) Expected (t ∷ ts) (gives_some x) (end_fixed x t ts))

end_plain : {X : Type 0} (x : X) (tokens : List Token) (s : Stop) → end_at x tokens ≡ Err s → s.0 ≡ Expected
end_plain x [] s e = absurd cc
end_plain {X} x (t ∷ ts) s e = sym (ap (λ (z : Stop). z.0) (err_is {A = X × List Token} (here (t ∷ ts)) s e))

end_laws : {X : Type 0} (x : X) → Laws (end_at x) (Gives x) any
end_laws x = record {
  takes = λ tokens y rest e. end_takes x tokens (y, rest) e;
  stops = λ tokens kind rest e. end_stops x tokens (kind, rest) e;
  again = λ y front rest is ends. rw (is.0, is.1, any_false rest ends) refl;
}

end_reads : {More : Type 0} {X : Type 0} (x : X) → Reads More (end_at x) (end_at x) (Gives x) (Gives x) any
end_reads x = record { laws = end_laws x; wide_laws = end_laws x; widens = plain_widens (end_at x) (Gives x) (end_plain x); some = gives_some x }

-- nothing goes on with anything at the end
end_avoids : {X : Type 0} (x : X) (test : ℕ → Bool) → Avoids (Gives x) test any
end_avoids x test = record { avoiding = λ y front rest h ends. rw (h.1, any_false rest ends) refl }

end_empty : {X : Type 0} (x y : X) (tokens rest : List Token) → end_at x tokens ≡ Ok (y, rest) → rest ≡ []
end_empty {X} x y [] rest e = sym (ap (λ (p : X × List Token). p.1) (ok_is (x, []) (y, rest) e))
end_empty x y (t ∷ ts) rest e = absurd cc

-- ---- a family of readers, by how many levels they open

module _ {X : Type 0} (read : ℕ → Reader X) (is : ℕ → Language X) {longer : ℕ → Bool} (reads : (n m : ℕ) → n < m → Reads (Unit {0}) (read n) (read m) (is n) (is m) longer) where
  -- with any number of levels
  abbrev pub IsAny : Language X
  IsAny x tokens = (n : ℕ) × is n x tokens

  abbrev IsWhole : ℕ → Language X
  IsWhole n = Then (is n) (λ x. Gives x)

  whole_reads : (n m : ℕ) → n < m → Reads (Unit {0}) (whole_at (read n)) (whole_at (read m)) (IsWhole n) (IsWhole m) any
  whole_reads n m lt = then_reads (reads n m lt) end_reads (λ x. end_avoids x longer)

  whole_laws : (n : ℕ) → Laws (whole_at (read n)) (IsWhole n) any
  whole_laws n = (whole_reads n (n + 1) (omega arith)).laws

  whole_is : (n : ℕ) (x : X) (tokens : List Token) → IsWhole n x tokens → is n x tokens
  whole_is n x tokens h = rw (h.parts, h.is_second.1, append-nil h.front, h.is_second.0) h.is_first

  is_whole : (n : ℕ) (x : X) (tokens : List Token) → is n x tokens → IsWhole n x tokens
  is_whole n x tokens h = record { head = x; front = tokens; back = []; parts = sym (append-nil tokens); is_first = h; is_second = (refl, refl) }

  -- a text of the language is read
  read_whole : (n : ℕ) (x : X) (tokens : List Token) → is n x tokens → whole_at (read n) tokens ≡ Ok (x, [])
  read_whole n x tokens h = ap (whole_at (read n)) (sym (append-nil tokens)) ∙ (whole_laws n).again x tokens [] (is_whole n x tokens h) refl

  -- with more levels too
  read_wider : (n m : ℕ) (x : X) (tokens : List Token) → n < m → is n x tokens → whole_at (read m) tokens ≡ Ok (x, [])
  read_wider n m x tokens lt h = (whole_reads n m lt).widens.keeps tokens (x, []) (read_whole n x tokens h)

  pub one_value : (x y : X) (tokens : List Token) → IsAny x tokens → IsAny y tokens → x ≡ y
  one_value x y tokens h k =
      let m = h.0 + k.0 + 1 in
      ap (λ (p : X × List Token). p.0) (ok_is (x, []) (y, []) (sym (read_wider h.0 m x tokens (omega arith) h.1) ∙ read_wider k.0 m y tokens (omega arith) k.1))

  -- what was read is in the language
  pub whole_found : (n : ℕ) (x : X) (tokens rest : List Token) → whole_at (read n) tokens ≡ Ok (x, rest) → is n x tokens
  whole_found n x tokens rest e =
      let t = (whole_laws n).takes tokens x rest e in
      let b = bind_ok (read n tokens) (λ p. end_at p.0 p.1) (x, rest) e in
      let nil = end_empty b.0.0 x b.0.1 rest b.2 in
      let parts : tokens ≡ t.front = t.parts ∙ ap (λ (z : List Token). t.front ++ z) nil ∙ append-nil t.front in
      rw parts (whole_is n x t.front t.is_read)

  pub wider_list : (m k : ℕ) (x : X) (tokens : List Token) → m < k → is m x tokens → is k x tokens
  wider_list m k x tokens lt h = whole_found k x tokens [] (read_wider m k x tokens lt h)

  -- ---- the first fault

  -- why the tokens before a place don't go on with those from there on, where n levels may be open
  abbrev pub StopsAt : ℕ → FaultKind → List Token → List Token → Type 0
  StopsAt n Expected front [] = (x : X) → IsAny x front → ⊥
  StopsAt n Expected front (token ∷ after) = Begins IsAny (front ++ token ∷ []) → ⊥
  StopsAt n TooDeep front [] = ⊥
  StopsAt n TooDeep front (token ∷ after) = Begins IsAny (front ++ token ∷ []) × (Begins (is n) (front ++ token ∷ []) → ⊥)

  -- the tokens before the fault begin some list, and don't go on with it
  pub record IsStop (n : ℕ) (tokens : List Token) (kind : FaultKind) (rest : List Token) : Type 0 where
    pub front : List Token
    pub parts : tokens ≡ front ++ rest
    pub begins : Begins (is n) front
    pub stops : StopsAt n kind front rest

  begins_some : (n : ℕ) (front : List Token) → Begins (IsWhole n) front → Begins (is n) front
  begins_some n front b = record { value = b.value; tail = b.tail; whole = whole_is n b.value (front ++ b.tail) b.whole }

  no_answer : (n : ℕ) (x : X) (tokens : List Token) (s : Stop) → is n x tokens → whole_at (read n) tokens ≡ Err s → ⊥
  no_answer n x tokens s h e = let bad : done (x, []) ≡ failed {A = X × List Token} s = sym (read_whole n x tokens h) ∙ e in absurd cc

  -- where the reading with n levels stops, no list with n levels goes on
  no_more : (n : ℕ) (tokens : List Token) (kind : FaultKind) (t : Token) (after : List Token) (s : Stopped (whole_at (read n)) (IsWhole n) tokens kind (t ∷ after)) → Begins (is n) (s.front ++ t ∷ []) → ⊥
  no_more n tokens kind t after s b =
      let again : whole_at (read n) (s.front ++ t ∷ b.tail) ≡ Err (kind, t ∷ b.tail) = s.fixed (t ∷ b.tail) refl in
      no_answer n b.value (s.front ++ t ∷ b.tail) (kind, t ∷ b.tail) (subst (λ (z : List Token). is n b.value z) (append_assoc s.front (t ∷ []) b.tail) b.whole) again

  wide_fault : (n m : ℕ) → n < m → (tokens rest : List Token) → whole_at (read n) tokens ≡ Err (Expected, rest) → whole_at (read m) tokens ≡ Err (Expected, rest)
  wide_fault n m lt tokens rest e = elim ((whole_reads n m lt).widens.faults tokens (Expected, rest) e) [ inl k ↦ k.1 | inr g ↦ absurd g.0 ]

  expected : (n : ℕ) (tokens rest : List Token) → whole_at (read n) tokens ≡ Err (Expected, rest) → IsStop n tokens Expected rest
  expected n tokens [] e =
      let s = (whole_laws n).stops tokens Expected [] e in
      record {
        front = s.front;
        parts = s.parts;
        begins = begins_some n s.front s.begins;
        stops = λ x h. let k = n + h.0 + 1 in no_answer k x s.front (Expected, []) (wider_list h.0 k x s.front (omega arith) h.1) (ap (whole_at (read k)) (sym (s.parts ∙ append-nil s.front)) ∙ wide_fault n k (omega arith) tokens [] e);
      }
  expected n tokens (t ∷ after) e =
      let s = (whole_laws n).stops tokens Expected (t ∷ after) e in
      record {
        front = s.front;
        parts = s.parts;
        begins = begins_some n s.front s.begins;
        stops = λ b.
            let k = n + b.whole.0 + 1 in
            let list : is k b.value (s.front ++ t ∷ b.tail) = subst (λ (z : List Token). is k b.value z) (append_assoc s.front (t ∷ []) b.tail) (wider_list b.whole.0 k b.value ((s.front ++ t ∷ []) ++ b.tail) (omega arith) b.whole.1) in
            let again : whole_at (read n) (s.front ++ t ∷ b.tail) ≡ Err (Expected, t ∷ b.tail) = s.fixed (t ∷ b.tail) refl in
            no_answer k b.value (s.front ++ t ∷ b.tail) (Expected, t ∷ b.tail) list (wide_fault n k (omega arith) (s.front ++ t ∷ b.tail) (t ∷ b.tail) again);
      }

  -- the parts of a limit's fault
  record AtLimit (n : ℕ) (tokens rest : List Token) : Type 0 where
    front : List Token
    token : Token
    after : List Token
    parts : tokens ≡ front ++ token ∷ after
    rest_is : rest ≡ token ∷ after
    begins : Begins (is n) front
    goes_on : Begins IsAny (front ++ token ∷ [])
    not_here : Begins (is n) (front ++ token ∷ []) → ⊥

  at_limit : (n : ℕ) (tokens : List Token) (kind : FaultKind) (rest : List Token) → whole_at (read n) tokens ≡ Err (kind, rest) → GoesOn (IsWhole (n + 1)) tokens rest → AtLimit n tokens rest
  at_limit n tokens kind rest e g =
      let s = (whole_laws n).stops tokens kind (g.token ∷ g.after) (rw (← g.rest_is) e) in
      let same : g.front ≡ s.front = append_cancel_right g.front s.front (g.token ∷ g.after) (sym g.parts ∙ s.parts) in
      let b = g.begins in
      record {
        front = s.front;
        token = g.token;
        after = g.after;
        parts = s.parts;
        rest_is = g.rest_is;
        begins = begins_some n s.front s.begins;
        goes_on = rw (← same) (let found : Begins IsAny (g.front ++ g.token ∷ []) = record { value = b.value; tail = b.tail; whole = (n + 1, whole_is (n + 1) b.value ((g.front ++ g.token ∷ []) ++ b.tail) b.whole) } in found);
        not_here = no_more n tokens kind g.token g.after s;
      }

  limited : (n : ℕ) (tokens : List Token) (kind : FaultKind) (rest : List Token) → IsLimit kind → AtLimit n tokens rest → IsStop n tokens kind rest
  limited n tokens Expected rest limit a = absurd limit
  limited n tokens TooDeep rest limit a = rw a.rest_is (record { front = a.front; parts = a.parts; begins = a.begins; stops = (a.goes_on, a.not_here) })

  pub whole_fault : (n : ℕ) (tokens : List Token) (kind : FaultKind) (rest : List Token) → whole_at (read n) tokens ≡ Err (kind, rest) → IsStop n tokens kind rest
  whole_fault n tokens kind rest e =
      elim ((whole_reads n (n + 1) (omega arith)).widens.faults tokens (kind, rest) e) [
        | inl k ↦ rw k.0 (expected n tokens rest (rw (← k.0) e))
        | inr g ↦ limited n tokens kind rest g.0 (at_limit n tokens kind rest e (g.1 tt))
      ]

-- ---- a token is left

pub not_ended : {X : Type 0} (x : X) (tokens : List Token) → 1 ≤ length tokens → end_at x tokens ≡ Err (here tokens)
not_ended x [] h = absurd (omega arith)
not_ended x (t ∷ ts) h = refl
