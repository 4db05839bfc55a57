use Rattle.std.proofs.Common.{rules, ◌≡◌, ◌∙◌, ◌++◌, List, [], ap, true}
use Rattle.std.specs.Prelude.{codes, nat_lt, if◌then◌else◌}
use Rattle.std.proofs.lemmas.Bool.{le-ltb}
use Rattle.og_command_notes.specs.Notes.{table_text}
use Rattle.og_review_text.specs.Seen.{points_of}
use Rattle.og_command_notes.specs.declared.together.Block.{Block}
use Rattle.og_report_text.proofs.Joins.{joined}
use Rattle.og_review_text.proofs.Joins.{when_ok}
use Rattle.og_command_notes.proofs.Joins.{chosen, not_chosen}
use Rattle.og_command_notes.proofs.lines.put_together.Goals as goal

pub returns : goal.returns
returns c =
    let table = table_text c.args.origins.now.source.now c.args.origins.now.rows (points_of c.args.points.now) in
    let blocks = c.args.together.now.blocks.items in
    let cut = c.args.together.now.is_cut in
    let before = c.args.text.now.items in
    let one = c.put_table.new.text.items in
    let after = c.extend_from_slice.new.self.items in
    let r = c.extend_from_slice.result in
    let told = codes " only the first 20000 pairs of places were compared\n" in
    let is_cut : cut ≡ true = search rules in
    let e : one ≡ before ++ table blocks = c.in_ok-put_table.ensures ∙ ap (λ (bs : List Block). before ++ table bs) c.deref.ensures.value in
    not_chosen r (nat_lt c.args.processes 2) before after [] (table blocks ++ (if cut then told else [])) (le-ltb c.args.processes 2 c.if-processes-lt2.false)
    (joined r before one after (table blocks) (if cut then told else []) e (chosen r cut one after told [] is_cut (when_ok r one after told c.extend_from_slice.ensures.items)))
