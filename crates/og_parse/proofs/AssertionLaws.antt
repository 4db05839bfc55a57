-- The laws of reading assertions, level by level.
use Rattle.std.proofs.Common.{◌≡◌, ℕ, zero, suc, ◌≤◌, ◌<◌, Bool, true, false, List, [], ◌∷◌, Ok, refl, arith}
use Rattle.og_text.specs.Kinds.{number_of}
use Rattle.og_text.specs.declared.token.TokenKind.TheVariants as kinds
use Rattle.og_text.specs.declared.token.Token.{Token}
use Rattle.og_parse.specs.Fronts.{Begins}
use Rattle.og_parse.specs.Reading.{Reader, ◌>>=◌, nothing, is_a, or, symbol_at}
use Rattle.og_parse.proofs.Languages.{Laws, Starts, Avoids, symbol_some}
use Rattle.og_parse.proofs.More.{gives_avoids, symbol_starts, then_starts, either_avoids, map_some, then_some}
use Rattle.og_parse.proofs.Bundle.{Reads, Way, open_way, shut_way, no_way, way_reads, way_starts, optional_avoids, shut_closed, starts_also, or_left, or_right, either_starts, with_place_starts, avoids_by, symbol_avoids, gives_reads, symbol_reads, then_reads, next_reads, map_reads, either_reads, separated_reads, with_place_reads, symbol_goes, either_goes}
use Rattle.og_parse.specs.Trees.{Assertion, Truth, Falsity, Negation, Implication, conjunction, disjunction}
use Rattle.og_parse.specs.Grammar.{IsComparison, IsUnitWith, IsConjunctionWith, IsDisjunctionWith, IsAssertionWith, openings, IsAssertion, IsNote}
use Rattle.og_parse.proofs.Productions.{IsTruth, IsFalsity, IsNegation, IsInParens, IsImplied, IsBraced}
use Rattle.og_parse.specs.Reads.{a_prefix, truth_at, falsity_at, negation_by, in_parens_by, implied_by, unit_by, units_by, conjunction_by, conjunctions_by, disjunction_by, assertion_by, prefix_by, opens, assertion_at, test_at, braced_at, note_at}
use Rattle.og_parse.proofs.Same.{nested, same_reads}
use Rattle.og_parse.proofs.TermLaws.{a_sum_fails, after_sum, comparison_reads, comparison_starts}

-- what goes on with a conjunction, a disjunction, an assertion
abbrev pub after_conjunction : ℕ → Bool
after_conjunction = or (is_a kinds.And) after_sum

abbrev pub after_disjunction : ℕ → Bool
after_disjunction = or (is_a kinds.Or) after_conjunction

abbrev pub after_assertion : ℕ → Bool
after_assertion = or (is_a kinds.Arrow) after_disjunction

truth_reads : {More : Type 0} → Reads More truth_at truth_at IsTruth IsTruth after_sum
unfolding truth_at
truth_reads = map_reads (λ word. Truth) (symbol_reads kinds.True refl after_sum)

falsity_reads : {More : Type 0} → Reads More falsity_at falsity_at IsFalsity IsFalsity after_sum
unfolding falsity_at
falsity_reads = map_reads (λ word. Falsity) (symbol_reads kinds.False refl after_sum)

-- an implication, one part after the other
unfoldable implied_steps : Reader Assertion → Assertion → Reader Assertion
implied_steps assertion left tokens = do
  arrow ← symbol_at kinds.Arrow tokens
  right ← assertion arrow.1
  Ok (Implication left right.0, right.1)

implied_same : (assertion : Reader Assertion) (left : Assertion) (tokens : List Token) → implied_steps assertion left tokens ≡ implied_by assertion left tokens
unfolding implied_steps implied_by
implied_same assertion left tokens = simp nested

-- ---- a level, over the ways that open the next

pub record Ways (More : Type 0) (n m : ℕ) : Type 0 where
  pub prefix : Way More a_prefix (opens n).prefix (opens m).prefix (openings n).prefix (openings m).prefix after_sum
  pub implied : (left : Assertion) → Way More (is_a kinds.Arrow) ((opens n).implied left) ((opens m).implied left) ((openings n).implied left) ((openings m).implied left) after_assertion

-- what fails at the first tokens of a comparison and of 'false'
comparison_avoids : (test : ℕ → Bool) → test (number_of kinds.Minus) ≡ false → test 0 ≡ false → test 1 ≡ false → Avoids IsComparison test after_sum
comparison_avoids test at_minus at_name at_number = avoids_by (a_sum_fails test at_minus at_name at_number) comparison_starts

module _ {More : Type 0} {n m : ℕ} (ways : Ways More n m) where
  unit_reads : Reads More (unit_by (opens n)) (unit_by (opens m)) (IsUnitWith (openings n)) (IsUnitWith (openings m)) after_sum
  unfolding unit_by
  unit_reads =
      way_reads a_prefix ways.prefix
      (either_reads (is_a kinds.True) truth_reads (then_starts (symbol_starts kinds.True))
      (either_reads (is_a kinds.False) falsity_reads (then_starts (symbol_starts kinds.False)) comparison_reads (comparison_avoids (is_a kinds.False) refl refl refl))
      (either_avoids (symbol_avoids kinds.False (is_a kinds.True) refl) (comparison_avoids (is_a kinds.True) refl refl refl)))
      (either_avoids (symbol_avoids kinds.True a_prefix refl) (either_avoids (symbol_avoids kinds.False a_prefix refl) (comparison_avoids a_prefix refl refl refl)))

  conjunction_reads : Reads More (conjunction_by (opens n)) (conjunction_by (opens m)) (IsConjunctionWith (openings n)) (IsConjunctionWith (openings m)) after_conjunction
  unfolding conjunction_by units_by
  conjunction_reads = map_reads conjunction (separated_reads kinds.And refl unit_reads refl)

  disjunction_reads : Reads More (disjunction_by (opens n)) (disjunction_by (opens m)) (IsDisjunctionWith (openings n)) (IsDisjunctionWith (openings m)) after_disjunction
  unfolding disjunction_by conjunctions_by
  disjunction_reads = map_reads disjunction (separated_reads kinds.Or refl conjunction_reads refl)

  assertion_reads : Reads More (assertion_by (opens n)) (assertion_by (opens m)) (IsAssertionWith (openings n)) (IsAssertionWith (openings m)) after_assertion
  unfolding assertion_by
  assertion_reads =
      then_reads disjunction_reads
      (λ left. way_reads (is_a kinds.Arrow) (ways.implied left) (gives_reads left after_assertion) (gives_avoids left (is_a kinds.Arrow) after_disjunction))
      (λ left. optional_avoids left kinds.Arrow after_disjunction refl (way_starts (ways.implied left)))

  -- ---- the ways one level further out

  negation_reads : Reads More (negation_by (unit_by (opens n))) (negation_by (unit_by (opens m))) (IsNegation (IsUnitWith (openings n))) (IsNegation (IsUnitWith (openings m))) after_sum
  unfolding negation_by
  negation_reads = next_reads (symbol_reads kinds.Not refl nothing) (λ at. map_reads Negation unit_reads)

  in_parens_reads : Reads More (in_parens_by (assertion_by (opens n))) (in_parens_by (assertion_by (opens m))) (IsInParens (IsAssertionWith (openings n))) (IsInParens (IsAssertionWith (openings m))) after_sum
  unfolding in_parens_by
  in_parens_reads =
      next_reads (symbol_reads kinds.OpenParen refl nothing)
      (λ at. then_reads assertion_reads (λ a. map_reads (λ at. a) (symbol_reads kinds.CloseParen refl after_sum)) (λ a. symbol_avoids kinds.CloseParen after_assertion refl))

  prefix_reads : Reads More (prefix_by (opens n)) (prefix_by (opens m)) (openings (suc n)).prefix (openings (suc m)).prefix after_sum
  unfolding prefix_by
  prefix_reads = either_reads (is_a kinds.Not) negation_reads (then_starts (symbol_starts kinds.Not)) in_parens_reads (symbol_avoids kinds.OpenParen (is_a kinds.Not) refl)

  implied_step_reads : (left : Assertion) → Reads More (implied_steps (assertion_by (opens n)) left) (implied_steps (assertion_by (opens m)) left) (IsImplied (IsAssertionWith (openings n)) left) (IsImplied (IsAssertionWith (openings m)) left) after_assertion
  unfolding implied_steps
  implied_step_reads left = next_reads (symbol_reads kinds.Arrow refl nothing) (λ at. map_reads (λ right. Implication left right) assertion_reads)

  implied_reads : (left : Assertion) → Reads More (implied_by (assertion_by (opens n)) left) (implied_by (assertion_by (opens m)) left) (IsImplied (IsAssertionWith (openings n)) left) (IsImplied (IsAssertionWith (openings m)) left) after_assertion
  implied_reads left = same_reads (implied_same (assertion_by (opens n)) left) (implied_same (assertion_by (opens m)) left) (implied_step_reads left)

  prefix_goes : (token : Token) → a_prefix (number_of token.kind) ≡ true → Begins (openings (suc n)).prefix (token ∷ [])
  prefix_goes =
      let unit_some = map_some Negation unit_reads.some in
      let inner_some = then_some assertion_reads.some (λ a. map_some (λ at. a) (symbol_some kinds.CloseParen)) in
      either_goes (is_a kinds.Not) (is_a kinds.OpenParen) (symbol_goes kinds.Not refl (λ at. unit_some)) (symbol_goes kinds.OpenParen refl (λ at. inner_some))

  implied_goes : (left : Assertion) (token : Token) → is_a kinds.Arrow (number_of token.kind) ≡ true → Begins (IsImplied (IsAssertionWith (openings n)) left) (token ∷ [])
  implied_goes left = symbol_goes kinds.Arrow refl (λ at. map_some (λ right. Implication left right) assertion_reads.some)

prefix_starts : (n : ℕ) → Starts (openings (suc n)).prefix a_prefix
prefix_starts n = either_starts (starts_also (or_left (is_a kinds.Not) (is_a kinds.OpenParen)) (then_starts (symbol_starts kinds.Not))) (starts_also (or_right (is_a kinds.Not) (is_a kinds.OpenParen)) (then_starts (symbol_starts kinds.OpenParen)))

-- ---- every level

pub not_below : (n : ℕ) → n < n → ⊥
not_below n h = absurd (omega arith)

pub ways : (m : ℕ) (More : Type 0) (n : ℕ) → n ≤ m → (More → n < m) → Ways More n m
ways zero More zero le more = record {
  prefix = no_way (shut_closed a_prefix) (shut_closed a_prefix) (λ p. not_below 0 (more p));
  implied = λ left. no_way (shut_closed (is_a kinds.Arrow)) (shut_closed (is_a kinds.Arrow)) (λ p. not_below 0 (more p));
}
ways zero More (suc n) le more = absurd (omega arith)
ways (suc m) More zero le more =
    let inner = ways m ⊥ m (omega arith) (λ p. absurd p) in
    record {
      prefix = shut_way (shut_closed a_prefix) (prefix_reads inner).laws (prefix_starts m) (prefix_goes inner);
      implied = λ left. shut_way (shut_closed (is_a kinds.Arrow)) (implied_reads inner left).laws (then_starts (symbol_starts kinds.Arrow)) (implied_goes inner left);
    }
ways (suc m) More (suc n) le more =
    let inner = ways m More n (omega arith) (λ p. let lt = more p in omega arith) in
    record {
      prefix = open_way (prefix_reads inner) (prefix_starts m);
      implied = λ left. open_way (implied_reads inner left) (then_starts (symbol_starts kinds.Arrow));
    }

module _ {More : Type 0} (n m : ℕ) (le : n ≤ m) (more : More → n < m) where
  pub assertion_level : Reads More (assertion_at n) (assertion_at m) (IsAssertion n) (IsAssertion m) after_assertion
  assertion_level = assertion_reads (ways m More n le more)

  braced_level : Reads More (braced_at n) (braced_at m) (IsBraced n) (IsBraced m) nothing
  unfolding braced_at test_at
  braced_level =
      next_reads (symbol_reads kinds.OpenBrace refl nothing)
      (λ at. then_reads assertion_level (λ a. map_reads (λ at. a) (symbol_reads kinds.CloseBrace refl nothing)) (λ a. symbol_avoids kinds.CloseBrace after_assertion refl))

  pub note_level : Reads More (note_at n) (note_at m) (IsNote n) (IsNote m) nothing
  unfolding note_at
  note_level = with_place_reads (then_starts (symbol_starts kinds.OpenBrace)) braced_level

pub note_starts : (n : ℕ) → Starts (IsNote n) (is_a kinds.OpenBrace)
note_starts n = with_place_starts (then_starts (symbol_starts kinds.OpenBrace))

-- ---- the parts that loops read

abbrev pub same_ways : (n : ℕ) → Ways ⊥ n n
same_ways n = ways n ⊥ n (omega arith) (λ p. absurd p)

pub unit_laws : (n : ℕ) → Laws (unit_by (opens n)) (IsUnitWith (openings n)) after_sum
unit_laws n = (unit_reads (same_ways n)).laws

pub conjunction_laws : (n : ℕ) → Laws (conjunction_by (opens n)) (IsConjunctionWith (openings n)) after_conjunction
conjunction_laws n = (conjunction_reads (same_ways n)).laws
