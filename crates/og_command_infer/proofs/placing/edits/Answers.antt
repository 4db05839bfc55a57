use Rattle.std.proofs.Common.{sym, subst, All}
use Rattle.std.specs.Global.{Vec}
use Rattle.og_command_infer.specs.Edits.{IsInBraces}
use Rattle.og_infer_marks.specs.declared.edit.Edit.{Edit}
use Rattle.og_command_infer.proofs.placing.edits.Goals.{in-Some+in_ok-complete, in_default}
use Rattle.og_command_infer.proofs.placing.edits.Goals as goal

pub loop-addition-preserved : goal.loop-addition-preserved
loop-addition-preserved c =
    let held = IsInBraces c.args.text.now in
    let invariant : Vec Edit → Type 0 = λ v. All held v.items in
    elim c.match-note_tokens.branch [
      | in-Some+in_ok-complete w ↦ subst invariant (sym w.edits-is) (w.in_ok-complete.ensures c.loop-addition.invariant)
      | in_default w ↦ subst invariant (sym w.edits-is) c.loop-addition.invariant
    ]
