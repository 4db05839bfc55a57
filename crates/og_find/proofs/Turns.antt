-- The truth of facts one by one.
use Rattle.std.proofs.Common.{◌≡◌, ℕ, zero, suc, ◌+◌, ◌<◌, ℤ, List, [], ◌∷◌, ◌&&◌, ◌||◌, map, length, drop, get_or, Bool, true, false, Vec, Global, refl, sym, ap, ◌∙◌, arith}
use Rattle.og_facts.specs.declared.fact.Fact as its
use Rattle.og_facts.specs.Facts.{facts_of_list, parts_of_list}
use Rattle.og_facts.specs.Truth.{fact_true, some_part_true, all_true_at, facts_true}
use Rattle.og_facts.specs.Plain.{plain_fact}
use Rattle.og_facts.specs.Answer.{shown}
use Rattle.og_facts.proofs.Adding.{drop_item}
use Rattle.og_facts.proofs.Truths.{listed_true}

pub all_turn : (s : List ℤ) (fs : List its.Fact) (i : ℕ) (f : its.Fact) → i < length fs → f ≡ get_or fs i f → fact_true s (plain_fact f) ≡ true → all_true_at s (map plain_fact (drop (i + 1) fs)) ≡ all_true_at s (map plain_fact (drop i fs))
all_turn s fs i f h e t =
    sym (ap (λ l. all_true_at s (map plain_fact l)) (drop_item fs i f h e)
    ∙ ap (λ b. b && all_true_at s (map plain_fact (drop (i + 1) fs))) t)

or_true : (b : Bool) → (b || true) ≡ true
or_true true = refl
or_true false = refl

pub some_at : (s : List ℤ) (ps : List (Vec its.Fact Global)) (i : ℕ) (p : Vec its.Fact Global) → i < length ps → p ≡ get_or ps i p → all_true_at s (shown p) ≡ true → some_part_true s (parts_of_list (map shown ps)) ≡ true
some_at s [] i p h e t = absurd (omega arith)
some_at s (q ∷ ps) zero p h e t =
    let first : facts_true s (facts_of_list (shown q)) ≡ true = listed_true s (shown q) ∙ ap (λ r. all_true_at s (shown r)) (sym e) ∙ t in
    ap (λ b. b || some_part_true s (parts_of_list (map shown ps))) first
some_at s (q ∷ ps) (suc i) p h e t =
    ap (λ b. facts_true s (facts_of_list (shown q)) || b) (some_at s ps i p (omega arith) e t)
    ∙ or_true (facts_true s (facts_of_list (shown q)))
