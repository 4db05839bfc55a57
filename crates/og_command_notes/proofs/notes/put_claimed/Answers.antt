use Rattle.std.proofs.Common.{rules, ◌≡◌, ◌++◌}
use Rattle.std.specs.Prelude.{codes, flat_map}
use Rattle.og_command_notes.specs.Notes.{assertion_line, claim_line}
use Rattle.og_command_notes.specs.Seen.{claims_of}
use Rattle.og_report_text.proofs.Joins.{joined}
use Rattle.og_command_notes.proofs.notes.put_claimed.Goals as goal

pub returns : goal.returns
returns c =
    let o = c.args.outline.now in
    let source = c.args.origins.now.source.now in
    let rows = c.args.origins.now.rows in
    let before = c.args.text.now.items in
    let one = c.put_assertion_line.new.text.items in
    let two = c.put_assertion_line-2.new.text.items in
    let first = assertion_line source rows o.names (codes "precondition") o.pre in
    let second = assertion_line source rows o.names (codes "postcondition") o.post in
    let listed_lines = flat_map (claim_line source rows) (claims_of c.args.claims.now) in
    let e : one ≡ before ++ first = search rules in
    let f : two ≡ one ++ second = search rules in
    joined c.put_claims.result before one c.put_claims.new.text.items first (second ++ listed_lines) e
    (joined c.put_claims.result one two c.put_claims.new.text.items second listed_lines f c.put_claims.ensures)
