use Rattle.std.proofs.Common.{◌≡◌, ◌∙◌, ◌∷◌, map, sym, ap, refl}
use Rattle.og_typed.specs.Plain.{simple}
use Rattle.og_completion.proofs.bodies.completes_assignment.Goals as goal

pub returns-then-is_assignment : goal.returns-then-is_assignment
returns-then-is_assignment c = λ yes. (
  map simple c.in-Some.rest.now,
  ap (map simple) c.in-Some.ensures.cases.0 ∙ ap (λ b. b ∷ map simple c.in-Some.rest.now) (c.is_assignment.ensures c.if-is_assignment.true),
  c.are_marks.ensures yes,
)
