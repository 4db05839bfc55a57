use Rattle.std.proofs.Common.{◌≡◌, ◌∙◌, ◌++◌, [], length, sym, false}
use Rattle.std.specs.Prelude.{codes, ◌==◌}
use Rattle.og_report_text.specs.Values.{names_text}
use Rattle.og_report_text.proofs.Joins.{joined}
use Rattle.og_review_text.proofs.Joins.{when_ok}
use Rattle.og_command_notes.proofs.Joins.{not_chosen}
use Rattle.og_command_notes.proofs.notes.put_auxiliaries.Goals as goal

pub returns : goal.returns
returns c =
    let vars = c.args.vars.now in
    let before = c.args.text.now.items in
    let one = c.extend_from_slice-2.new.self.items in
    let two = c.put_names.new.text.items in
    let after = c.extend_from_slice-3.new.self.items in
    let r = c.extend_from_slice-3.result in
    let first = codes "auxiliary variables: " in
    let second = names_text c.args.outline.now.names [] vars in
    let third = codes "\nthe program without them:\n" in
    let is_some : (length vars == 0) ≡ false = sym c.is_empty.ensures ∙ c.if-is_empty.false in
    let f : two ≡ one ++ second = rw c.names.ensures at c.in_ok-put_names.ensures in
    not_chosen r (length vars == 0) before after (codes "auxiliary variables: none\nthe program:\n") (first ++ (second ++ third)) is_some
    (joined r before one after first (second ++ third) c.in_ok-extend_from_slice.ensures.items (joined r one two after second third f (when_ok r two after third c.extend_from_slice-3.ensures.items)))
