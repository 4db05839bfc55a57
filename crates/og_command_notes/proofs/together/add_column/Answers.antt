use Rattle.og_review_text.specs.Seen.{points_of}
use Rattle.og_command_notes.proofs.Blocks.{taken}
use Rattle.og_command_notes.proofs.together.add_column.Goals as goal

pub returns-in_ok-push-in-Some-joined_in_row : goal.returns-in_ok-push-in-Some-joined_in_row
returns-in_ok-push-in-Some-joined_in_row c =
    taken (points_of c.args.points.now) c.args.row.now.items c.pop.new.self.items c.push-in-Some-joined_in_row.new.self.items c.in-Some.last c.args.block c.in-Some-joined_in_row.joined
    c.requires.row c.in-Some.ensures.items c.requires.block c.in-Some-joined_in_row.ensures c.in_ok-push-in-Some-joined_in_row.ensures.items
