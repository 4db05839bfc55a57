use Rattle.std.proofs.Common.{rules, ◌≡◌, ◌∙◌, ◌<◌, ◌++◌, ◌∷◌, [], ℕ, List, length, refl, sym, subst}
use Rattle.std.specs.List.{position_or_len, before_first, after_first}
use Rattle.og_io.specs.Numbers.{is_comma, IsNumber, AreNumbers}
use Rattle.og_io.proofs.Adding.{added, only_added, no_first, no_last, last_added, only_last}
use Rattle.og_io.proofs.number_list.numbers.Goals as goal

pub loop-first-preserved : goal.loop-first-preserved
loop-first-preserved c =
    let word = c.args.word.now in
    let rest = c.loop-first.rest.now in
    let steps = c.loop-first.found.items in
    let n = c.in-Some-number.value in
    let comma : position_or_len is_comma rest < length rest = search rules in
    let before : c.in-Some.first.now ≡ before_first is_comma rest = search rules in
    let after : c.in-Some.others.now ≡ after_first is_comma rest = search rules in
    let first = subst (λ (t : List ℕ). IsNumber t n) before c.in-Some-number.ensures.some in
    let pushed : c.push.new.self.items ≡ steps ++ n ∷ [] = c.in_ok-push.ensures.items in
    let made = added word rest steps n comma first c.loop-first.invariant.1 in
    let only = only_added word rest steps n comma first c.loop-first.invariant.2 in (
      search rules,
      subst (λ (t : List ℕ). (tail : List ℕ) → AreNumbers t tail → AreNumbers word (c.push.new.self.items ++ tail)) (sym after)
          (subst (λ (s : List ℕ). (tail : List ℕ) → AreNumbers (after_first is_comma rest) tail → AreNumbers word (s ++ tail)) (sym pushed) made),
      subst (λ (t : List ℕ). (all : List ℕ) → AreNumbers word all → (tail : List ℕ) × (all ≡ c.push.new.self.items ++ tail) × AreNumbers t tail) (sym after)
          (subst (λ (s : List ℕ). (all : List ℕ) → AreNumbers word all → (tail : List ℕ) × (all ≡ s ++ tail) × AreNumbers (after_first is_comma rest) tail) (sym pushed) only),
    )

pub returns-in_default-number-clause-none : goal.returns-in_default-number-clause-none
returns-in_default-number-clause-none c = λ none.
    let rest = c.loop-first.rest.now in
    let comma : position_or_len is_comma rest < length rest = search rules in
    let before : c.in-Some.first.now ≡ before_first is_comma rest = search rules in
    no_first c.args.word.now rest c.loop-first.found.items comma
    (λ n is. c.in_default-number.ensures.none refl n (subst (λ (t : List ℕ). IsNumber t n) (sym before) is)) c.loop-first.invariant.2

pub returns-in_default-number-2-clause-none : goal.returns-in_default-number-2-clause-none
returns-in_default-number-2-clause-none c = λ none.
    no_last c.args.word.now c.loop-first.rest.now c.loop-first.found.items (c.in_default.ensures.none refl)
    (λ n is. c.in_default-number-2.ensures.none refl n is) c.loop-first.invariant.2

pub returns-clause-some : goal.returns-clause-some
returns-clause-some c =
    subst (AreNumbers c.args.word.now) (sym c.in_ok-push-2.ensures.items)
    (last_added c.args.word.now c.loop-first.rest.now c.loop-first.found.items c.in-Some-number-2.value (c.in_default.ensures.none refl) c.in-Some-number-2.ensures.some c.loop-first.invariant.1)

pub returns-clause-only : goal.returns-clause-only
returns-clause-only c = λ all are.
    only_last c.args.word.now c.loop-first.rest.now c.loop-first.found.items c.in-Some-number-2.value (c.in_default.ensures.none refl) c.in-Some-number-2.ensures.some
    c.loop-first.invariant.2 all are ∙ sym c.in_ok-push-2.ensures.items
