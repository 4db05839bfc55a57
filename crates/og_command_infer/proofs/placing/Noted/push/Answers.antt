use Rattle.std.proofs.Common.{sym, subst, All}
use Rattle.std.proofs.lemmas.List.Elements.{All-push}
use Rattle.og_command_infer.specs.Edits.{IsInBraces}
use Rattle.og_infer_marks.specs.declared.edit.Edit.{Edit}
use Rattle.og_command_infer.proofs.placing.Noted.push.Goals as goal

pub returns-in_ok-push : goal.returns-in_ok-push
returns-in_ok-push c = λ all.
    let held = IsInBraces c.args.self.now.text.now in
    let edit : Edit = record { at = c.args.at; end = c.args.end; text = c.args.text } in
    subst (All held) (sym c.in_ok-push.ensures.items) (All-push held c.args.edits.now.items edit all (c.are_in_braces.ensures c.if-are_in_braces.true))
