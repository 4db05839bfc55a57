use mir.Syntax.{w64}
use mir.Val.{SFits, to_z, of_z}
use Rattle.std.proofs.Common.{◌≡◌, ◌<◌, pos, [], get_or, length, map, refl, sym, subst, ap, ◌∙◌, rules, arith}
use Rattle.std.proofs.lemmas.Int.{to_z-of_z}
use Rattle.std.proofs.lemmas.List.{length-map}
use Rattle.std.proofs.lemmas.Bool.Decides.{nat_tests}
use Rattle.std.specs.Prelude.{List, Ok, Some, None}
use Rattle.og_parse.specs.declared.raw.RawItem.{RawItem}
use Rattle.og_parse.specs.declared.raw.RawStmt.TheFolds.{fold-roll-RawSeq}
use Rattle.og_parse.specs.TreeOf as outline
use Rattle.og_parse.specs.Trees as outlines
use Rattle.og_template.specs.declared.tree.Step as declared_step
use Rattle.og_template.specs.declared.tree.Statement.TheViews.{out-Sequence}
use Rattle.og_template.specs.declared.tree.Statement.TheFolds.{fold_out-Sequence}
use Rattle.og_template_expand.specs.declared.prefix.Prefix.{Prefix}
use Rattle.og_template_expand.specs.Answer.{Checked, ◌>>=◌}
use Rattle.og_template_expand.specs.Put.{front_of, with_steps, onto}
use Rattle.og_template_expand.specs.Ranges.{instances, instance_of, entered}
use Rattle.og_template_expand.specs.Scope.{Scope}
use Rattle.og_template_expand.specs.Scoped.{IsExpanded, FailsAs, scope_of}
use Rattle.og_template_expand.specs.Statements as meaning
use Rattle.og_template_expand.specs.Trees.{Statement, Step, Sequence, sequence}
use Rattle.og_template_expand.specs.TreeOf.{statement_step, step_step, sequence_step, binder_of, note_of, step_of, steps_then, sequence_of}
use Rattle.og_template_expand.proofs.Entering.{entered_in, passed_in, enter_fails, inside_fails}
use Rattle.og_template_expand.proofs.Put.{turn, steps_turn, nothing_left, some_left}
use Rattle.og_template_expand.proofs.Trees.{tree_for}
use Rattle.og_template_expand.proofs.statements.+sequences.Goals as goal
use Rattle.og_template_expand.proofs.statements.+sequences.Goals.{put_repeated-in-Some+in_ok-put_steps, put_repeated-in_default}

pub put_repeated-loop-value-preserved : goal.put_repeated-loop-value-preserved
put_repeated-loop-value-preserved t c =
    let scope = scope_of c.args.scope.now in
    let binder = binder_of c.args.binder.now in
    let body = λ (s : Scope). meaning.steps_of s (steps_then (map step_of c.args.steps.now)) in
    let each = instance_of scope binder body in
    let values = c.deref-value-items.result.now in
    let i = c.loop-value.value-index in
    let fit : SFits w64 (get_or values i (pos 0)) = search rules in
    let x = to_z w64 (of_z w64 (get_or values i (pos 0))) in
    let out = front_of c.loop-value.prefix in
    let made : onto out (each x) ≡ Ok (front_of c.match-branch-3.prefix) = elim c.match-branch-3.branch [
      | put_repeated-in-Some+in_ok-put_steps w ↦
          let is : entered scope binder x ≡ Ok (Some (scope_of w.in-Some.inner)) = rw w.in-Some.is at c.in_ok-inner.ensures in
          subst (λ (p : Prefix). onto out (each x) ≡ Ok (front_of p)) (sym w.prefix-is) (entered_in scope binder body x (λ steps. Ok (with_steps out steps)) (Ok (front_of w.put_steps.new.prefix)) (scope_of w.in-Some.inner) is w.in_ok-put_steps.ensures)
      | put_repeated-in_default w ↦
          let is : entered scope binder x ≡ Ok None = rw w.in_default.is at c.in_ok-inner.ensures in
          subst (λ (p : Prefix). onto out (each x) ≡ Ok (front_of p)) (sym w.prefix-is) (passed_in scope binder body x (λ steps. Ok (with_steps out steps)) (Ok out) is refl)
    ] in
    turn each out (front_of c.match-branch-3.prefix) values i (pos 0) x _ c.loop-value-test.true (to_z-of_z w64 _ fit) made c.loop-value.invariant

pub put_step-returns-in-For : goal.put_step-returns-in-For
put_step-returns-in-For t c =
    let scope = scope_of c.args.scope.now in
    let out = front_of c.args.prefix.now in
    let new = front_of c.put_repeated.new.prefix in
    let result = c.put_repeated.result in
    subst (λ (s : Step). IsExpanded (λ u. new) result (onto out (meaning.one_of scope s))) (sym (ap step_of c.in-For.is ∙ tree_for c.in-For.binder c.in-For.steps))
    (subst (λ (items : List declared_step.Step). IsExpanded (λ u. new) result (onto out (instances scope (binder_of c.in-For.binder) (λ s. meaning.steps_of s (steps_then (map step_of items)))))) c.deref.ensures.value c.put_repeated.ensures)

pub put_steps-loop-step-preserved : goal.put_steps-loop-step-preserved
put_steps-loop-step-preserved t c =
    let out = front_of c.loop-step.prefix in
    let new = front_of c.put_step.new.prefix in
    steps_turn (scope_of c.args.scope.now) step_of out new c.args.steps.now c.loop-step.step-index c.step-item.result _
    c.loop-step-test.true c.step-item.is c.in_ok-put_step.ensures c.loop-step.invariant

pub sequence-returns-then-is_empty : goal.sequence-returns-then-is_empty
sequence-returns-then-is_empty t c =
    let scope = scope_of c.args.scope.now in
    let raw = out-Sequence c.args.sequence.now in
    let steps = steps_then (map step_of c.deref.result.now) in
    let items = map outline.item_of c.put_steps.new.prefix.items.items in
    let tree : sequence_of c.args.sequence.now ≡ sequence (note_of raw.before) steps =
    fold_out-Sequence Statement Step Sequence statement_step step_step sequence_step c.args.sequence.now
    ∙ ap (λ (all : List declared_step.Step). sequence (note_of raw.before) (steps_then (map step_of all))) (sym c.deref.ensures.value) in
    let made : onto ([], outline.note_of c.in_ok-last.last) (meaning.steps_of scope steps) ≡ Ok (items, outline.note_of c.put_steps.new.prefix.last) =
    subst (λ (l : List RawItem). onto (map outline.item_of l, outline.note_of c.in_ok-last.last) (meaning.steps_of scope steps) ≡ Ok (items, outline.note_of c.put_steps.new.prefix.last)) c.new-items.ensures.items c.in_ok-put_steps.ensures in
    let none : length items ≡ 0 = length-map c.put_steps.new.prefix.items.items outline.item_of ∙ grind (arith, nat_tests) in
    subst (λ e. FailsAs e (meaning.sequence_of scope (sequence_of c.args.sequence.now))) (sym c.fault.ensures)
    (ap (meaning.sequence_of scope) tree
    ∙ ap (λ (a : Checked outlines.Note). a >>= λ b. meaning.steps_of scope steps >>= λ all. meaning.sequence_with raw.before.span b all) c.in_ok-last.ensures
    ∙ nothing_left raw.before.span (outline.note_of c.in_ok-last.last) (meaning.steps_of scope steps) items (outline.note_of c.put_steps.new.prefix.last) none made)

pub sequence-returns : goal.sequence-returns
sequence-returns t c =
    let scope = scope_of c.args.scope.now in
    let raw = out-Sequence c.args.sequence.now in
    let steps = steps_then (map step_of c.deref.result.now) in
    let items = map outline.item_of c.put_steps.new.prefix.items.items in
    let tree : sequence_of c.args.sequence.now ≡ sequence (note_of raw.before) steps =
    fold_out-Sequence Statement Step Sequence statement_step step_step sequence_step c.args.sequence.now
    ∙ ap (λ (all : List declared_step.Step). sequence (note_of raw.before) (steps_then (map step_of all))) (sym c.deref.ensures.value) in
    let made : onto ([], outline.note_of c.in_ok-last.last) (meaning.steps_of scope steps) ≡ Ok (items, outline.note_of c.put_steps.new.prefix.last) =
    subst (λ (l : List RawItem). onto (map outline.item_of l, outline.note_of c.in_ok-last.last) (meaning.steps_of scope steps) ≡ Ok (items, outline.note_of c.put_steps.new.prefix.last)) c.new-items.ensures.items c.in_ok-put_steps.ensures in
    let some : 0 < length items = subst (λ n. 0 < n) (sym (length-map c.put_steps.new.prefix.items.items outline.item_of)) (grind (arith, nat_tests)) in
    ap (meaning.sequence_of scope) tree
    ∙ ap (λ (a : Checked outlines.Note). a >>= λ b. meaning.steps_of scope steps >>= λ all. meaning.sequence_with raw.before.span b all) c.in_ok-last.ensures
    ∙ some_left raw.before.span (outline.note_of c.in_ok-last.last) (meaning.steps_of scope steps) items (outline.note_of c.put_steps.new.prefix.last) some made
    ∙ ap Ok (sym (fold-roll-RawSeq outlines.Stmt outline.Item outlines.Seq outline.stmt_step outline.item_step outline.seq_step (record { items = c.put_steps.new.prefix.items; last = c.put_steps.new.prefix.last })))
