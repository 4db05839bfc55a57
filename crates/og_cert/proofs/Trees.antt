-- The parts and the certificates of a split, by the items of their `Vec`s.
use Rattle.std.proofs.Common.{◌≡◌, ℕ, suc, List, [], ◌∷◌, map, length, Ok, Vec, Global, refl, sym, ap, ap₂, ◌∙◌}
use Rattle.og_facts.specs.declared.fact.Fact.{Fact, Row_of-Fact, end_of-Fact, more_of-Fact, items-the_row-Fact, items_shown-the_row-Fact-0, Row_of-Fact-Split-0-1, end_of-Fact-Split-0-1, more_of-Fact-Split-0-1, items-the_row-Fact-Split-0-1, items_hidden-the_row-Fact-Split-0-1-1}
use Rattle.og_facts.specs.declared.fact.Fact.TheViews as fact_view
use Rattle.og_facts.specs.declared.fact.Fact.TheBlock.{hidden-the_row-Fact-Split-0-1-1}
use Rattle.og_facts.specs.Facts as plain
use Rattle.og_facts.specs.Facts.{list_of_facts, list_of_parts}
use Rattle.og_facts.specs.Plain.{plain_fact, plain_parts, plain_facts}
use Rattle.og_cert_text.specs.declared.cert.Cert.{Cert}
use Rattle.og_cert_text.specs.declared.cert.Finish.{Row_of-Cert, end_of-Cert, more_of-Cert, items-the_row-Cert, items_hidden-the_row-Cert-0}
use Rattle.og_cert_text.specs.declared.cert.Finish.TheViews as finish_view
use Rattle.og_cert_text.specs.declared.cert.Finish.TheBlock.{hidden-the_row-Cert-0}
use Rattle.og_cert_text.specs.Tree.{SplitOn, cert}
use Rattle.og_cert_text.specs.Lines.{cert_count}
use Rattle.og_cert_text.specs.Plain.{plain_finish, plain_certs, with_steps}
use Rattle.og_cert.specs.Checks.{split_in}
use Rattle.og_cert.specs.Steps.{certs_of}

-- ---- the parts of a fact

abbrev pub part_of : Vec Fact Global → List plain.Fact
part_of p = map plain_fact p.items

part_items : (n : _) (row : Row_of-Fact n) → list_of_facts (plain_facts row) ≡ map plain_fact (items-the_row-Fact n row)
part_items _ end_of-Fact = refl
part_items _ (more_of-Fact f rest) = ap (λ fs. plain_fact f ∷ fs) (part_items _ rest)

parts_items : (n : _) (row : Row_of-Fact-Split-0-1 n) → list_of_parts (plain_parts row) ≡ map part_of (items-the_row-Fact-Split-0-1 n row)
parts_items _ end_of-Fact-Split-0-1 = refl
parts_items _ (more_of-Fact-Split-0-1 shape row rest) =
    ap₂ ◌∷◌ (part_items _ row ∙ ap (map plain_fact) (sym (items_shown-the_row-Fact-0 shape row))) (parts_items _ rest)

pub parts_in : (v : Vec (Vec Fact Global) Global) → split_in (plain_fact (fact_view.Split v)) ≡ Ok (map part_of v.items)
parts_in v = ap Ok (parts_items _ (hidden-the_row-Fact-Split-0-1-1 v) ∙ ap (map part_of) (items_hidden-the_row-Fact-Split-0-1-1 v))

-- ---- the certificates of a finish

certs_items : (n : _) (row : Row_of-Cert n) → plain_certs row ≡ certs_of (items-the_row-Cert n row)
certs_items _ end_of-Cert = refl
certs_items _ (more_of-Cert steps finish rest) = ap (cert (with_steps steps.items (plain_finish finish))) (certs_items _ rest)

pub split_of : (i : ℕ) (v : Vec Cert Global) → plain_finish (finish_view.Split i v) ≡ SplitOn i (certs_of v.items)
split_of i v = ap (SplitOn i) (certs_items _ (hidden-the_row-Cert-0 v) ∙ ap certs_of (items_hidden-the_row-Cert-0 v))

pub count_certs : (cs : List Cert) → cert_count (certs_of cs) ≡ length cs
count_certs [] = refl
count_certs (c ∷ cs) = ap suc (count_certs cs)
