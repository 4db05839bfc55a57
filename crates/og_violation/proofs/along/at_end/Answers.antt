use Rattle.std.proofs.Common.{◌∙◌, ◌≡◌, Option, Some, None, is_some, option_map, not, sym, ap, refl}
use Rattle.std.proofs.lemmas.Bool.{both_ways}
use Rattle.og_typed.specs.Plain.{sequence}
use Rattle.og_violation.proofs.Runs.{reached_shaped}
use Rattle.og_violation.proofs.Firsts.{no_finding}
use Rattle.og_violation.proofs.along.at_end.Goals as goal
use Rattle.og_violation.proofs.along.at_end.Goals.{then-is_none+in_default, else-is_none}

some_map : {X Y : Type 0} (f : X → Y) (o : Option X) → is_some (option_map f o) ≡ is_some o
some_map f None = refl
some_map f (Some x) = refl

pub returns-else-is_post_false : goal.returns-else-is_post_false
returns-else-is_post_false c =
    let o = c.args.outline.now in
    let m = c.args.moment.now.moment in
    no_finding o m (reached_shaped o m c.requires.of.1) c.requires.ended
    (elim c.if-is_none.branch [
      | then-is_none+in_default w ↦ (λ none. w.in_default.ensures.none)
      | else-is_none w ↦ (λ none. absurd (both_ways (is_some o.epilogue) none
          (sym (ap is_some c.epilogue.ensures) ∙ some_map (λ part. sequence part.now) c.epilogue.result ∙ c.is_none.ensures ∙ ap not w.if-is_none.false)))
    ])
    (λ wrong. both_ways c.is_post_false.result c.if-is_post_false.false (c.is_post_false.ensures.1 wrong))
