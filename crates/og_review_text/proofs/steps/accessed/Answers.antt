use Rattle.std.proofs.Common.{◌≡◌, ◌∙◌, ◌++◌, ◌∷◌, [], sym, true, false}
use Rattle.og_review_text.specs.Seen.{step_of, steps_of}
use Rattle.og_review_text.specs.Steps as plain
use Rattle.og_review_text.proofs.Ranges.{kept_next, left_next}
use Rattle.og_review_text.proofs.steps.accessed.Goals as goal
use Rattle.og_review_text.proofs.steps.accessed.Goals.{then-is_accessed+in_ok-push, else-is_accessed}

pub loop-var-preserved : goal.loop-var-preserved
loop-var-preserved c =
    let all = steps_of c.args.steps.now in
    let step = step_of c.args.step.now in
    let way = c.args.access in
    let i = c.loop-var.var in
    let n = c.args.vars in
    let before = c.loop-var.accessed.items in
    let whole = plain.accessed all n step way in
    elim c.if-is_accessed.branch [
      | then-is_accessed+in_ok-push w ↦
          let passes : plain.is_accessed all step way i ≡ true = sym c.is_accessed.ensures ∙ w.if-is_accessed.true in
          let made : c.if-is_accessed.accessed.items ≡ before ++ i ∷ [] = rw w.accessed-is w.in_ok-push.ensures.items in
          kept_next (plain.is_accessed all step way) before c.if-is_accessed.accessed.items whole i n c.loop-var-test.true passes made c.loop-var.invariant
      | else-is_accessed w ↦
          let fails : plain.is_accessed all step way i ≡ false = sym c.is_accessed.ensures ∙ w.if-is_accessed.false in
          rw w.accessed-is (left_next (plain.is_accessed all step way) before whole i n c.loop-var-test.true fails c.loop-var.invariant)
    ]
