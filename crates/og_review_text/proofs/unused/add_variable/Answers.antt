use Rattle.std.proofs.Common.{◌≡◌, ◌++◌}
use Rattle.std.specs.Prelude.{OnOk}
use Rattle.og_review_text.specs.Unused.{unused_where, is_unreached, is_unset_auxiliary, is_unread}
use Rattle.og_review_text.specs.declared.unused.Disuse.TheVariants as disuse
use Rattle.og_review_text.proofs.Joins.{added_then}
use Rattle.og_review_text.proofs.unused.add_variable.Goals as goal

pub returns : goal.returns
returns c =
    let o = c.args.outline.now in
    let x = c.args.var in
    let before = c.args.all.now.items in
    let one = c.add_where.new.all.items in
    let two = c.add_where-2.new.all.items in
    let after = c.add_where-3.new.all.items in
    let r = c.add_where-3.result in
    let first = unused_where (is_unreached o x) x disuse.Unreached in
    let second = unused_where (is_unset_auxiliary o x) x disuse.Unassigned in
    let third = unused_where (is_unread o x) x disuse.Unread in
    let e : one ≡ before ++ first = rw (c.is_unreached-is_unreached.ensures) at c.in_ok-add_where.ensures in
    let f : two ≡ one ++ second = rw (c.is_unset_auxiliary-is_unset.ensures) at c.in_ok-add_where-2.ensures in
    let g : OnOk r (after ≡ two ++ third) = rw (c.is_unread-is_unread.ensures) at c.add_where-3.ensures in
    added_then r before one after first (second ++ third) e (added_then r one two after second third f g)
