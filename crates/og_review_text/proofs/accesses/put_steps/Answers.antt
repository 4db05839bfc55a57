use Rattle.std.proofs.Common.{◌≡◌, ◌∙◌, ◌++◌, ℕ, ap}
use Rattle.og_review_text.specs.Accesses.{accesses_line, step_line, step_lines}
use Rattle.og_review_text.specs.Seen.{step_of, steps_of}
use Rattle.og_review_text.specs.Steps.{accessed}
use Rattle.og_review_text.specs.declared.steps.Access.TheVariants as access
use Rattle.og_review_text.proofs.Joins.{element_more, by_known}
use Rattle.og_review_text.proofs.accesses.put_steps.Goals as goal

pub loop-step-preserved : goal.loop-step-preserved
loop-step-preserved c =
    let o = c.args.outline.now in
    let source = c.args.origins.now.source.now in
    let rows = c.args.origins.now.rows in
    let all = steps_of c.args.steps.now in
    let step = step_of c.step-item.result in
    let before = c.loop-step.text.items in
    let after = c.put_step.new.text.items in
    let found = c.in_ok-accesses.accesses in
    let both = accessed all o.vars step access.ReadsAndWrites in
    let reads = accessed all o.vars step access.Reads in
    let writes = accessed all o.vars step access.Writes in
    let e : found.both.items ≡ both = c.in_ok-accesses.ensures.0 ∙ ap (λ (n : ℕ). accessed all n step access.ReadsAndWrites) c.vars.ensures in
    let f : found.reads.items ≡ reads = c.in_ok-accesses.ensures.1 ∙ ap (λ (n : ℕ). accessed all n step access.Reads) c.vars.ensures in
    let g : found.writes.items ≡ writes = c.in_ok-accesses.ensures.2 ∙ ap (λ (n : ℕ). accessed all n step access.Writes) c.vars.ensures in
    let made = by_known (accesses_line source rows o.names o.vars step) before after found.both.items found.reads.items found.writes.items both reads writes c.in_ok-put_step.ensures e f g in
    element_more step_of (step_line source rows o.names o.vars all) c.args.steps.now c.loop-step.step-index c.step-item.result before after
    (c.args.text.now.items ++ step_lines source rows o.names o.vars all) c.loop-step-test.true c.step-item.is made c.loop-step.invariant
