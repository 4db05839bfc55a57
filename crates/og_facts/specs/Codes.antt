-- A code of each list of facts, so that one can be a model's value.
use Rattle.std.specs.Prelude.{◌≡◌, ℕ, List, refl}
use mathlib.Core.Path.{ap, ap₂}
use native.Mathlib.Omega.{arith}
use base.Stored.{Gv, gnil, gnum, gcons}
use Rattle.std.specs.Coded.{Coded, code_by, coded×, coded_ℕ, coded_list}
use Rattle.og_typed.specs.Codes.{form_code}
use Rattle.og_facts.specs.Facts.{Fact, Atom, Split, Parts, no_part, part, Facts, no_fact, fact}
use Rattle.og_facts.specs.Listed.{Listed}

abbrev num : Gv → ℕ
num gnil = 0
num (gnum n) = n
num (gcons a b) = num a

abbrev front : Gv → Gv
front (gcons a b) = a
front _ = gnil

abbrev back : Gv → Gv
back (gcons a b) = b
back _ = gnil

abbrev mutual
  fact_gv : Fact → Gv
  fact_gv (Atom f) = gcons (gnum 0) (form_code.code f)
  fact_gv (Split ps) = gcons (gnum 1) (parts_gv ps)

  parts_gv : Parts → Gv
  parts_gv no_part = gnum 0
  parts_gv (part p ps) = gcons (gnum 1) (gcons (facts_gv p) (parts_gv ps))

  facts_gv : Facts → Gv
  facts_gv no_fact = gnum 0
  facts_gv (fact f fs) = gcons (gnum 1) (gcons (fact_gv f) (facts_gv fs))

mutual
  pub fact_inj : (a b : Fact) → fact_gv a ≡ fact_gv b → a ≡ b
  fact_inj (Atom f) (Atom g) e = ap Atom (form_code.inj f g (ap back e))
  fact_inj (Split ps) (Split qs) e = ap Split (parts_inj ps qs (ap back e))
  fact_inj _ _ e = absurd (omega (arith, ap num e))

  pub parts_inj : (a b : Parts) → parts_gv a ≡ parts_gv b → a ≡ b
  parts_inj no_part no_part e = refl
  parts_inj (part p ps) (part q qs) e =
      ap₂ part (facts_inj p q (ap (λ g. front (back g)) e)) (parts_inj ps qs (ap (λ g. back (back g)) e))
  parts_inj _ _ e = absurd (omega (arith, ap num e))

  pub facts_inj : (a b : Facts) → facts_gv a ≡ facts_gv b → a ≡ b
  facts_inj no_fact no_fact e = refl
  facts_inj (fact f fs) (fact g gs) e =
      ap₂ fact (fact_inj f g (ap (λ g. front (back g)) e)) (facts_inj fs gs (ap (λ g. back (back g)) e))
  facts_inj _ _ e = absurd (omega (arith, ap num e))

abbrev pub fact_code : Coded Fact
fact_code = record { code = fact_gv; inj = fact_inj }

abbrev pub listed_code : Coded Listed
listed_code =
    code_by (List Fact × ℕ) (coded× (coded_list fact_code) coded_ℕ) (λ l. (l.facts, l.variables)) (λ p. record { facts = p.0; variables = p.1 }) (λ _. refl)
