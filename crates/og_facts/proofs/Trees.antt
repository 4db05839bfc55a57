-- The plain tree of a split, by the items of its `Vec`s.
use Rattle.std.proofs.Common.{◌≡◌, ◌<◌, List, [], ◌∷◌, map, length, Vec, Global, refl, sym, ap, ap₂, ◌∙◌, arith}
use Rattle.og_facts.specs.declared.fact.Fact.{Fact, Row_of-Fact, end_of-Fact, more_of-Fact, items-the_row-Fact, items_shown-the_row-Fact-0, Row_of-Fact-Split-0-1, end_of-Fact-Split-0-1, more_of-Fact-Split-0-1, items-the_row-Fact-Split-0-1, items_hidden-the_row-Fact-Split-0-1-1}
use Rattle.og_facts.specs.declared.fact.Fact.TheViews as its
use Rattle.og_facts.specs.declared.fact.Fact.TheBlock.{hidden-the_row-Fact-Split-0-1-1}
use Rattle.og_facts.specs.Facts as plain
use Rattle.og_facts.specs.Facts.{facts_of_list, parts_of_list, split}
use Rattle.og_facts.specs.Plain.{plain_fact, plain_parts, plain_facts}
use Rattle.og_facts.specs.Answer.{shown}

facts_items : (n : _) (row : Row_of-Fact n) → plain_facts row ≡ facts_of_list (map plain_fact (items-the_row-Fact n row))
facts_items _ end_of-Fact = refl
facts_items _ (more_of-Fact f rest) = ap (plain.fact (plain_fact f)) (facts_items _ rest)

parts_items : (n : _) (row : Row_of-Fact-Split-0-1 n) → plain_parts row ≡ parts_of_list (map shown (items-the_row-Fact-Split-0-1 n row))
parts_items _ end_of-Fact-Split-0-1 = refl
parts_items _ (more_of-Fact-Split-0-1 x row rest) =
    ap₂ plain.part
    (facts_items _ row ∙ ap (λ l. facts_of_list (map plain_fact l)) (sym (items_shown-the_row-Fact-0 x row)))
    (parts_items _ rest)

pub plain_split : (v : Vec (Vec Fact Global) Global) → plain_fact (its.Split v) ≡ plain.Split (parts_of_list (map shown v.items))
plain_split v =
    ap plain.Split
    (parts_items _ (hidden-the_row-Fact-Split-0-1-1 v) ∙ ap (λ l. parts_of_list (map shown l)) (items_hidden-the_row-Fact-Split-0-1-1 v))

-- a split of two parts or more is one fact
pub split_many : (v : Vec (Vec Fact Global) Global) → 1 < length v.items → split (map shown v.items) ≡ plain_fact (its.Split v) ∷ []
split_many v h = many v.items h ∙ ap (λ f. f ∷ []) (sym (plain_split v))
  where
    many : (l : List (Vec Fact Global)) → 1 < length l → split (map shown l) ≡ plain.Split (parts_of_list (map shown l)) ∷ []
    many [] k = absurd (omega arith)
    many (p ∷ []) k = absurd (omega arith)
    many (p ∷ q ∷ ps) k = refl

pub two_parts : (v : Vec (Vec Fact Global) Global) (p q : Vec Fact Global) → v.items ≡ p ∷ q ∷ [] → split (shown p ∷ shown q ∷ []) ≡ plain_fact (its.Split v) ∷ []
two_parts v p q e = ap (λ l. split (map shown l)) (sym e) ∙ split_many v (rw e (omega arith))
