-- Lists that are operands of lists.
use Rattle.std.proofs.Common.{◌≡◌, List, [], ◌∷◌, ◌++◌, map, Vec, Global, refl, sym, ap, ◌∙◌, subst}
use Rattle.std.proofs.lemmas.List.{map-append}
use Rattle.og_parse.specs.declared.raw.RawAssert.{RawAssert}
use Rattle.og_parse.specs.declared.raw.RawAssert.TheOpen.{RawAssert-F}
use Rattle.og_parse.specs.declared.raw.RawAssert.TheViews as views
use Rattle.og_parse.specs.declared.raw.RawAssert.TheFolds.{fold-roll-RawAssert}
use Rattle.og_parse.specs.Trees.{Assertion, Conjunction, Disjunction, listed}
use Rattle.og_parse.specs.TreeOf.{assertion_of, assertion_step}
use Rattle.og_template_expand.specs.declared.connective.Connective.TheVariants.{And, Or}
use Rattle.og_template_expand.specs.Assertions.{operands_of, spliced}

tree_and : (all : Vec RawAssert Global) → assertion_of (views.And all) ≡ Conjunction (listed (map assertion_of all.items))
tree_and all = ap assertion_of (sym (views.rolls-And all)) ∙ fold-roll-RawAssert Assertion assertion_step (RawAssert-F.And all)

tree_or : (all : Vec RawAssert Global) → assertion_of (views.Or all) ≡ Disjunction (listed (map assertion_of all.items))
tree_or all = ap assertion_of (sym (views.rolls-Or all)) ∙ fold-roll-RawAssert Assertion assertion_step (RawAssert-F.Or all)

operands_listed : (all : List Assertion) → operands_of (listed all) ≡ all
operands_listed [] = refl
operands_listed (a ∷ all) = ap (λ l. a ∷ l) (operands_listed all)

pub and_in_and : (all : Vec RawAssert Global) → spliced And (assertion_of (views.And all)) ≡ map assertion_of all.items
and_in_and all = ap (spliced And) (tree_and all) ∙ operands_listed (map assertion_of all.items)

pub or_in_or : (all : Vec RawAssert Global) → spliced Or (assertion_of (views.Or all)) ≡ map assertion_of all.items
or_in_or all = ap (spliced Or) (tree_or all) ∙ operands_listed (map assertion_of all.items)

and_alone_rolled : (a : RawAssert-F RawAssert) → ((all : Vec RawAssert Global) → views.roll-RawAssert a ≡ views.And all → ⊥) → spliced And (assertion_of (views.roll-RawAssert a)) ≡ assertion_of (views.roll-RawAssert a) ∷ []
and_alone_rolled (RawAssert-F.And all) other = absurd (other all (views.rolls-And all))
and_alone_rolled a other = subst (λ t. spliced And t ≡ t ∷ []) (sym (fold-roll-RawAssert Assertion assertion_step a)) refl

or_alone_rolled : (a : RawAssert-F RawAssert) → ((all : Vec RawAssert Global) → views.roll-RawAssert a ≡ views.Or all → ⊥) → spliced Or (assertion_of (views.roll-RawAssert a)) ≡ assertion_of (views.roll-RawAssert a) ∷ []
or_alone_rolled (RawAssert-F.Or all) other = absurd (other all (views.rolls-Or all))
or_alone_rolled a other = subst (λ t. spliced Or t ≡ t ∷ []) (sym (fold-roll-RawAssert Assertion assertion_step a)) refl

pub and_alone : (a : RawAssert) → ((all : Vec RawAssert Global) → a ≡ views.And all → ⊥) → spliced And (assertion_of a) ≡ assertion_of a ∷ []
and_alone a = subst (λ (r : RawAssert). ((all : Vec RawAssert Global) → r ≡ views.And all → ⊥) → spliced And (assertion_of r) ≡ assertion_of r ∷ []) (views.roll-out-RawAssert a) (and_alone_rolled (views.out-RawAssert a))

pub or_alone : (a : RawAssert) → ((all : Vec RawAssert Global) → a ≡ views.Or all → ⊥) → spliced Or (assertion_of a) ≡ assertion_of a ∷ []
or_alone a = subst (λ (r : RawAssert). ((all : Vec RawAssert Global) → r ≡ views.Or all → ⊥) → spliced Or (assertion_of r) ≡ assertion_of r ∷ []) (views.roll-out-RawAssert a) (or_alone_rolled (views.out-RawAssert a))

pub put : (old more : List RawAssert) {new : List RawAssert} {gives : List Assertion} → new ≡ old ++ more → gives ≡ map assertion_of more → map assertion_of new ≡ map assertion_of old ++ gives
put old more added made = ap (map assertion_of) added ∙ map-append assertion_of old more ∙ ap (λ all. map assertion_of old ++ all) (sym made)
