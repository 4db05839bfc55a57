use Rattle.std.proofs.Common.{◌≡◌, [], ◌∷◌, Some, sym, ap, ap₂, ◌∙◌, arith}
use Rattle.std.specs.Prelude.{option_map}
use Rattle.std.proofs.lemmas.Grind.{common_steps}
use Rattle.og_facts.specs.Facts.{split, plus_one, negated}
use Rattle.og_facts.specs.Subjects.{form_in}
use Rattle.og_facts.specs.Walk.{part_and}
use Rattle.og_facts.proofs.Multiples.{apart_checked, one_some}
use Rattle.og_facts.proofs.Trees.{two_parts}
use Rattle.og_facts.proofs.relations.apart.Goals as goal

pub returns : goal.returns
returns c =
    let f = form_in c.args.subject in
    let v = c.push-2.new.self in
    let p = c.in_ok-part_of.field-0 in
    let q = c.in_ok-part_of-2.field-0 in
    let items : v.items ≡ p ∷ q ∷ [] = grind (arith, common_steps) in
    apart_checked f
    ∙ ap₂ (λ a b. option_map split (part_and a (part_and b (Some []))))
    (one_some (plus_one f) c.in_ok-next.field-0 c.in_ok-next.ensures)
    (one_some (plus_one (negated f)) c.in_ok-beyond.field-0 c.in_ok-beyond.ensures)
    ∙ ap₂ (λ a b. Some (split (a ∷ b ∷ []))) (sym c.in_ok-part_of.ensures) (sym c.in_ok-part_of-2.ensures)
    ∙ ap Some (two_parts v p q items)
