use Rattle.std.proofs.Common.{◌≡◌, ◌++◌, drop}
use Rattle.og_infer_marks.specs.Edits.{edited}
use Rattle.og_infer_marks.proofs.edit.edited.Given as goal

abbrev pub invariant-loop-edit : goal.invariant-loop-edit
invariant-loop-edit l = l.out.items ++ edited (drop l.edit-index l.edits) l.from l.text ≡ edited l.edits 0 l.text
