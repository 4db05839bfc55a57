-- Equal splits, by their parts.
use Rattle.std.proofs.Common.{◌≡◌, List, [], ◌∷◌, map, length, Vec, Global, vec_len, refl, sym, ap, ap₂, ◌∙◌}
use Rattle.std.proofs.lemmas.List.{length-map}
use Rattle.og_facts.specs.declared.fact.Fact.{Fact}
use Rattle.og_facts.specs.declared.fact.Fact.TheViews as its
use Rattle.og_facts.specs.Facts as plain
use Rattle.og_facts.specs.Facts.{facts_of_list, list_of_facts, parts_of_list, list_of_parts}
use Rattle.og_facts.specs.Plain.{plain_fact}
use Rattle.og_facts.specs.Answer.{shown}
use Rattle.og_facts.proofs.Trees.{plain_split}

facts_back : (fs : List plain.Fact) → list_of_facts (facts_of_list fs) ≡ fs
facts_back [] = refl
facts_back (f ∷ fs) = ap (λ gs. f ∷ gs) (facts_back fs)

parts_back : (ps : List (List plain.Fact)) → list_of_parts (parts_of_list ps) ≡ ps
parts_back [] = refl
parts_back (p ∷ ps) = ap₂ (λ q qs. q ∷ qs) (facts_back p) (parts_back ps)

abbrev parts_in : plain.Fact → List (List plain.Fact)
parts_in (plain.Atom f) = []
parts_in (plain.Split ps) = list_of_parts ps

in_split : (v : Vec (Vec Fact Global) Global) → parts_in (plain_fact (its.Split v)) ≡ map shown v.items
in_split v = ap parts_in (plain_split v) ∙ parts_back (map shown v.items)

-- splits with equal parts are equal
pub same_split : (v w : Vec (Vec Fact Global) Global) → map shown v.items ≡ map shown w.items → plain_fact (its.Split v) ≡ plain_fact (its.Split w)
same_split v w h = plain_split v ∙ ap (λ ps. plain.Split (parts_of_list ps)) h ∙ sym (plain_split w)

-- equal splits have equal parts
pub same_parts : (v w : Vec (Vec Fact Global) Global) → plain_fact (its.Split v) ≡ plain_fact (its.Split w) → map shown v.items ≡ map shown w.items
same_parts v w e = sym (in_split v) ∙ ap parts_in e ∙ in_split w

-- and as many of them
pub same_length : (v w : Vec (Vec Fact Global) Global) → plain_fact (its.Split v) ≡ plain_fact (its.Split w) → vec_len v ≡ vec_len w
same_length v w e =
    v.ok.0 ∙ sym (length-map v.items shown) ∙ ap length (same_parts v w e) ∙ length-map w.items shown ∙ sym w.ok.0
