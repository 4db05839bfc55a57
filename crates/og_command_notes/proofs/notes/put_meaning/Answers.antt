use Rattle.og_command_notes.specs.Notes.{unblocked_line, definitions_line}
use Rattle.og_report_text.proofs.Joins.{joined}
use Rattle.og_review_text.proofs.Joins.{when_ok}
use Rattle.og_command_notes.proofs.notes.put_meaning.Goals as goal

pub returns : goal.returns
returns c =
    let before = c.args.text.now.items in
    let one = c.extend_from_slice.new.self.items in
    let after = c.extend_from_slice-2.new.self.items in
    let r = c.extend_from_slice-2.result in
    joined r before one after unblocked_line definitions_line c.in_ok-extend_from_slice.ensures.items (when_ok r one after definitions_line c.extend_from_slice-2.ensures.items)
