-- The trees of values that hold a `Vec`.
use Rattle.std.proofs.Common.{◌≡◌, map, Vec, Global, sym, ap, ◌∙◌}
use Rattle.og_parse.specs.declared.raw.RawAssert.{RawAssert}
use Rattle.og_parse.specs.declared.raw.RawAssert.TheOpen.{RawAssert-F}
use Rattle.og_parse.specs.declared.raw.RawAssert.TheViews as views
use Rattle.og_parse.specs.declared.raw.RawAssert.TheFolds.{fold-roll-RawAssert}
use Rattle.og_parse.specs.declared.raw.RawSeq.{RawSeq}
use Rattle.og_parse.specs.declared.raw.RawItem.{RawItem}
use Rattle.og_parse.specs.declared.raw.RawStmt.TheViews.{out-RawSeq, out-RawItem}
use Rattle.og_parse.specs.declared.raw.RawStmt.TheFolds.{fold_out-RawSeq, fold_out-RawItem}
use Rattle.og_parse.specs.Trees.{Assertion, Conjunction, Disjunction, listed, Stmt, Seq, finish}
use Rattle.og_parse.specs.TreeOf.{assertion_of, assertion_step, Item, items_then, note_of, stmt_of, item_of, seq_of, stmt_step, item_step, seq_step}

pub tree_and : (all : Vec RawAssert Global) → assertion_of (views.And all) ≡ Conjunction (listed (map assertion_of all.items))
tree_and all = ap assertion_of (sym (views.rolls-And all)) ∙ fold-roll-RawAssert Assertion assertion_step (RawAssert-F.And all)

pub tree_or : (all : Vec RawAssert Global) → assertion_of (views.Or all) ≡ Disjunction (listed (map assertion_of all.items))
tree_or all = ap assertion_of (sym (views.rolls-Or all)) ∙ fold-roll-RawAssert Assertion assertion_step (RawAssert-F.Or all)

pub sequence_tree : (raw : RawSeq) → seq_of raw ≡ items_then (map item_of (out-RawSeq raw).items.items) (finish (note_of (out-RawSeq raw).last))
sequence_tree raw = fold_out-RawSeq Stmt Item Seq stmt_step item_step seq_step raw

-- the tree of an item
pub item_tree : (item : RawItem) → item_of item ≡ record { before = note_of (out-RawItem item).before; place = (out-RawItem item).span; stmt = stmt_of (out-RawItem item).stmt }
item_tree item = fold_out-RawItem Stmt Item Seq stmt_step item_step seq_step item
