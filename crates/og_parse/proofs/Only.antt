-- An outline and a fault exclude one another, and so do two faults.
use Rattle.std.proofs.Common.{◌≡◌, ℕ, ◌<◌, ◌≤◌, List, [], ◌∷◌, ◌++◌, refl, sym, ap, subst, ◌∙◌, arith, inl, inr, ◌⊎◌}
use Rattle.std.proofs.lemmas.List.{append-nil}
use Rattle.og_text.specs.declared.place.Span.{Span}
use Rattle.og_text.specs.declared.token.Token.{Token}
use Rattle.og_parse.specs.Fronts.{Begins}
use Rattle.og_parse.specs.declared.fault.ParseFault.{ParseFault}
use Rattle.og_parse.specs.declared.fault.ParseFault.TheVariants as faults
use Rattle.og_parse.specs.Trees.{Outline}
use Rattle.og_parse.specs.Grammar.{IsOutline}
use Rattle.og_parse.specs.Faults.{place_of, ComesTo, GoesNowhere, IsTooDeep, IsTooMany, IsFault}
use Rattle.og_parse.specs.Limits.{statement_count}
use Rattle.og_parse.proofs.Parsing.{few_in, next_parts, begins_less, begins_any}

module _ (levels statements : ℕ) (tokens : List Token) where
  -- no list within the limits goes on with the next token, or ends here where there is none
  abbrev Blocked : List Token → List Token → Type 0
  Blocked before [] = (outline : Outline) → IsOutline levels outline before → ⊥
  Blocked before (token ∷ after) = Begins (IsOutline levels) (before ++ token ∷ []) → statement_count (before ++ token ∷ []) ≤ statements → ⊥

  -- the fault at a place
  abbrev Wrong : ParseFault → List Token → List Token → Type 0
  Wrong (faults.Expected span) before rest = GoesNowhere before rest × (span ≡ place_of before rest)
  Wrong (faults.TooDeep span) before [] = ⊥
  Wrong (faults.TooDeep span) before (token ∷ after) = IsTooDeep levels before token × (statement_count (before ++ token ∷ []) ≤ statements) × (span ≡ token.span)
  Wrong (faults.TooManyStatements span) before [] = ⊥
  Wrong (faults.TooManyStatements span) before (token ∷ after) = IsTooMany statements before token × (span ≡ token.span)

  record Place (fault : ParseFault) : Type 0 where
    before : List Token
    rest : List Token
    comes : ComesTo levels statements tokens before rest
    blocked : Blocked before rest
    wrong : Wrong fault before rest

  nowhere_blocked : (before rest : List Token) → GoesNowhere before rest → Blocked before rest
  nowhere_blocked before [] nowhere = λ outline h. nowhere outline (levels, h)
  nowhere_blocked before (t ∷ after) nowhere = λ b few. nowhere (begins_any levels (before ++ t ∷ []) b)

  above : (n : ℕ) → statements < n → n ≤ statements → ⊥
  above n more few = absurd (omega arith)

  place_of_fault : (fault : ParseFault) → IsFault levels statements tokens fault → Place fault
  place_of_fault (faults.Expected span) f = record { before = f.0; rest = f.1; comes = f.2; blocked = nowhere_blocked f.0 f.1 f.3; wrong = (f.3, f.4) }
  place_of_fault (faults.TooDeep span) f = record { before = f.0; rest = f.2 ∷ f.1; comes = f.3; blocked = λ b few. f.4.too_deep b; wrong = (f.4, f.5, f.6) }
  place_of_fault (faults.TooManyStatements span) f = record { before = f.0; rest = f.2 ∷ f.1; comes = f.3; blocked = λ b few. above (statement_count (f.0 ++ f.2 ∷ [])) f.4.too_many few; wrong = (f.4, f.5) }

  -- ---- an outline has no fault

  not_blocked : (outline : Outline) (before rest : List Token) → IsOutline levels outline tokens → statement_count tokens ≤ statements → tokens ≡ before ++ rest → Blocked before rest → ⊥
  not_blocked outline before [] h few parts blocked = blocked outline (subst (λ (z : List Token). IsOutline levels outline z) (parts ∙ append-nil before) h)
  not_blocked outline before (t ∷ after) h few parts blocked =
      let cut = next_parts tokens before after t parts in
      blocked (record { value = outline; tail = after; whole = subst (λ (z : List Token). IsOutline levels outline z) cut h }) (few_in statements tokens (before ++ t ∷ []) after cut few)

  pub no_fault : (outline : Outline) (fault : ParseFault) → IsOutline levels outline tokens → statement_count tokens ≤ statements → IsFault levels statements tokens fault → ⊥
  no_fault outline fault h few f = let p = place_of_fault fault f in not_blocked outline p.before p.rest h few p.comes.parts p.blocked

  -- ---- two faults are one

  -- the tokens cut at two places: at the same one, or at one before the other
  abbrev Earlier : List Token → List Token → List Token → Type 0
  Earlier a r b = (t : Token) × (middle : List Token) × (after : List Token) × (r ≡ t ∷ after) × (b ≡ a ++ t ∷ middle)

  compare : (a r b s : List Token) → a ++ r ≡ b ++ s → ((a ≡ b) × (r ≡ s)) ⊎ (Earlier a r b ⊎ Earlier b s a)
  compare [] r [] s e = inl (refl, e)
  compare [] r (u ∷ b) s e = inr (inl (u, b, b ++ s, e, refl))
  compare (t ∷ a) r [] s e = inr (inr (t, a, a ++ r, sym e, refl))
  compare (t ∷ a) r (u ∷ b) s e =
      let same : t ≡ u = cc in
      let rest : a ++ r ≡ b ++ s = cc in
      elim (compare a r b s rest) [
        | inl h ↦ inl (ap (λ (l : List Token). t ∷ l) h.0 ∙ ap (λ (x : Token). x ∷ b) same, h.1)
        | inr h ↦ elim h [
          | inl k ↦ inr (inl (k.0, k.1, k.2, k.3, ap (λ (l : List Token). u ∷ l) k.4 ∙ ap (λ (x : Token). x ∷ (a ++ k.0 ∷ k.1)) (sym same)))
          | inr k ↦ inr (inr (k.0, k.1, k.2, k.3, ap (λ (l : List Token). t ∷ l) k.4 ∙ ap (λ (x : Token). x ∷ (b ++ k.0 ∷ k.1)) same))
        ]
      ]

  -- no fault stands before another
  not_earlier : (a r b s : List Token) → Blocked a r → ComesTo levels statements tokens b s → Earlier a r b → ⊥
  not_earlier a r b s blocked comes e =
      let here : b ≡ (a ++ e.0 ∷ []) ++ e.1 = next_parts b a e.1 e.0 e.4 in
      let stop = subst (λ (z : List Token). Blocked a z) e.3 blocked in
      stop (begins_less levels (a ++ e.0 ∷ []) e.1 (subst (λ (z : List Token). Begins (IsOutline levels) z) here comes.begins)) (few_in statements b (a ++ e.0 ∷ []) e.1 here comes.few)

  one_wrong : (one other : ParseFault) (before rest : List Token) → Wrong one before rest → Wrong other before rest → one ≡ other
  one_wrong (faults.Expected s) (faults.Expected u) before rest h k = ap (λ (z : Span). faults.Expected z) (h.1 ∙ sym k.1)
  one_wrong (faults.Expected s) (faults.TooDeep u) before [] h k = absurd k
  one_wrong (faults.Expected s) (faults.TooDeep u) before (t ∷ after) h k = absurd (h.0 k.0.goes_on)
  one_wrong (faults.Expected s) (faults.TooManyStatements u) before [] h k = absurd k
  one_wrong (faults.Expected s) (faults.TooManyStatements u) before (t ∷ after) h k = absurd (h.0 k.0.goes_on)
  one_wrong (faults.TooDeep s) other before [] h k = absurd h
  one_wrong (faults.TooDeep s) (faults.Expected u) before (t ∷ after) h k = absurd (k.0 h.0.goes_on)
  one_wrong (faults.TooDeep s) (faults.TooDeep u) before (t ∷ after) h k = ap (λ (z : Span). faults.TooDeep z) (h.2 ∙ sym k.2)
  one_wrong (faults.TooDeep s) (faults.TooManyStatements u) before (t ∷ after) h k = absurd (above (statement_count (before ++ t ∷ [])) k.0.too_many h.1)
  one_wrong (faults.TooManyStatements s) other before [] h k = absurd h
  one_wrong (faults.TooManyStatements s) (faults.Expected u) before (t ∷ after) h k = absurd (k.0 h.0.goes_on)
  one_wrong (faults.TooManyStatements s) (faults.TooDeep u) before (t ∷ after) h k = absurd (above (statement_count (before ++ t ∷ [])) h.0.too_many k.1)
  one_wrong (faults.TooManyStatements s) (faults.TooManyStatements u) before (t ∷ after) h k = ap (λ (z : Span). faults.TooManyStatements z) (h.1 ∙ sym k.1)

  same_place : (one other : ParseFault) (p : Place one) (q : Place other) → p.before ≡ q.before → p.rest ≡ q.rest → one ≡ other
  same_place one other p q at_before at_rest =
      one_wrong one other q.before q.rest (subst (λ (z : List Token). Wrong one z q.rest) at_before (subst (λ (z : List Token). Wrong one p.before z) at_rest p.wrong)) q.wrong

  pub one_fault : (one other : ParseFault) → IsFault levels statements tokens one → IsFault levels statements tokens other → one ≡ other
  one_fault one other f g =
      let p = place_of_fault one f in
      let q = place_of_fault other g in
      elim (compare p.before p.rest q.before q.rest (sym p.comes.parts ∙ q.comes.parts)) [
        | inl h ↦ same_place one other p q h.0 h.1
        | inr h ↦ elim h [
          | inl k ↦ absurd (not_earlier p.before p.rest q.before q.rest p.blocked q.comes k)
          | inr k ↦ absurd (not_earlier q.before q.rest p.before p.rest q.blocked p.comes k)
        ]
      ]
