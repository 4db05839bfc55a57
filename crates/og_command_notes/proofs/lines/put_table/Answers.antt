use Rattle.std.proofs.Common.{◌≡◌, ◌∙◌, ◌++◌, List, length, take, sym, ap, false}
use Rattle.std.specs.Prelude.{codes, flat_map, ◌==◌}
use Rattle.og_command_notes.specs.Notes.{block_line, more_text}
use Rattle.og_review_text.specs.Seen.{points_of}
use Rattle.og_command_notes.specs.declared.together.Block.{Block}
use Rattle.og_report_text.proofs.Joins.{joined}
use Rattle.og_command_notes.proofs.Joins.{not_chosen}
use Rattle.og_command_notes.proofs.lines.put_table.Goals as goal

pub returns : goal.returns
returns c =
    let blocks = c.args.blocks.now in
    let line = block_line c.args.origins.now.source.now c.args.origins.now.rows (points_of c.args.points.now) in
    let before = c.args.text.now.items in
    let one = c.extend_from_slice-2.new.self.items in
    let two = c.put_blocks.new.text.items in
    let after = c.put_more.new.text.items in
    let r = c.put_more.result in
    let first = codes "never together:\n" in
    let second = flat_map line (take 40 blocks) in
    let third = more_text (length blocks) in
    let is_some : (length blocks == 0) ≡ false = sym c.is_empty.ensures ∙ c.if-is_empty.false in
    let f : two ≡ one ++ second = c.in_ok-put_blocks.ensures ∙ ap (λ (bs : List Block). one ++ flat_map line bs) c.shown.ensures in
    not_chosen r (length blocks == 0) before after (codes "never together: none found\n") (first ++ (second ++ third)) is_some
    (joined r before one after first (second ++ third) c.in_ok-extend_from_slice.ensures.items (joined r one two after second third f c.put_more.ensures))
