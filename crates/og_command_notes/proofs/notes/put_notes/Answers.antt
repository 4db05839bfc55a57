use Rattle.std.proofs.Common.{rules, ◌≡◌, ◌++◌}
use Rattle.std.specs.Prelude.{OnOk}
use Rattle.og_review_text.specs.Hidden.{hidden_lines}
use Rattle.og_command_notes.specs.Notes.{findings_text, unblocked_line, definitions_line, auxiliaries, auxiliaries_text, program_of}
use Rattle.og_command_notes.specs.Seen.{claims_of}
use Rattle.og_report_text.proofs.Joins.{joined}
use Rattle.og_command_notes.proofs.notes.put_notes.Goals as goal

pub returns : goal.returns
returns c =
    let o = c.args.outline.now in
    let source = c.args.origins.now.source.now in
    let rows = c.args.origins.now.rows in
    let found = c.args.found.now in
    let before = c.args.text.now.items in
    let one = c.put_findings.new.text.items in
    let two = c.put_hidden_lines.new.text.items in
    let three = c.put_meaning.new.text.items in
    let after = c.put_program.new.text.items in
    let r = c.put_program.result in
    let first = findings_text o source rows (claims_of found.claims.items) found.together.blocks.items in
    let second = hidden_lines source in
    let third = unblocked_line ++ definitions_line in
    let last = auxiliaries_text o (auxiliaries o) ++ program_of o in
    let e : one ≡ before ++ first = search rules in
    let f : two ≡ one ++ second = search rules in
    let g : three ≡ two ++ third = search rules in
    let h : OnOk r (after ≡ three ++ last) = search rules in
    joined r before one after first (second ++ (third ++ last)) e
    (joined r one two after second (third ++ last) f (joined r two three after third last g h))
