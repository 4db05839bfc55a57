use Rattle.std.proofs.Common.{◌≡◌, ◌∙◌, ◌++◌, map, sym, ap, refl}
use Rattle.std.proofs.lemmas.List.{map-append}
use Rattle.og_typed.specs.Plain.{simple}
use Rattle.og_subst.specs.Trees.{tree_body}
use Rattle.og_completion.proofs.bodies.completes_body.Goals as goal

pub returns-then-equals : goal.returns-then-equals
returns-then-equals c = λ yes.
    let front = c.split_at.result.0.now in
    let rest = c.split_at.result.1.now in
    let same : map simple front ≡ map simple c.args.old.now = ap tree_body (c.equals.ensures.0 c.if-equals.true) in (
      map simple rest,
      ap (map simple) c.split_at.ensures.by_index.0 ∙ map-append simple front rest ∙ ap (λ old. old ++ map simple rest) same,
      c.are_marks.ensures yes,
    )
