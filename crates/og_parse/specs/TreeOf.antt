-- The tree of what lies in memory.
use Rattle.std.specs.Prelude.{List, [], ◌∷◌, map, option_map}
use Rattle.og_text.specs.declared.place.Span.{Span}
use Rattle.og_parse.specs.Language.{Placed}
use Rattle.og_parse.specs.declared.raw.RawSum.{RawSum}
use Rattle.og_parse.specs.declared.raw.RawBasic.{RawBasic}
use Rattle.og_parse.specs.declared.raw.RawBasic.TheVariants as basics
use Rattle.og_parse.specs.declared.raw.RawElement.{RawElement}
use Rattle.og_parse.specs.declared.raw.RawAssert.{RawAssert}
use Rattle.og_parse.specs.declared.raw.RawAssert.TheOpen.{RawAssert-F}
use Rattle.og_parse.specs.declared.raw.RawAssert.TheFolds.{fold-RawAssert}
use Rattle.og_parse.specs.declared.raw.RawNote.{RawNote}
use Rattle.og_parse.specs.declared.raw.RawStmt.{RawStmt}
use Rattle.og_parse.specs.declared.raw.RawItem.{RawItem}
use Rattle.og_parse.specs.declared.raw.RawSeq.{RawSeq}
use Rattle.og_parse.specs.declared.raw.RawProcesses.{RawProcesses}
use Rattle.og_parse.specs.declared.raw.RawStmt.TheOpen.{RawStmt-F, RawItem-F, RawSeq-F}
use Rattle.og_parse.specs.declared.raw.RawStmt.TheFolds.{fold-RawStmt, fold-RawSeq, fold-RawItem}
use Rattle.og_parse.specs.declared.raw.Raw.{Raw}
use Rattle.og_parse.specs.Trees.{Sum, Assertion, Truth, Falsity, Comparison, Negation, Conjunction, Disjunction, Implication, Note, listed, Basic, Skip, Assign, Stmt, Simple, While, Await, Seq, Step, item, finish, choice, Outline}
use Rattle.std.specs.Prelude.{List, [], ◌∷◌, option_map}
use Rattle.og_parse.specs.declared.outline.RawFront.{RawFront}
use Rattle.og_parse.specs.declared.outline.RawBack.{RawBack}
use Rattle.og_parse.specs.Parts.{Front, Back}

abbrev pub sum_of : RawSum → Sum
sum_of s = record { place = s.span; value = s.terms.items }

-- one node, with the tree of each child in its place
abbrev pub assertion_step : RawAssert-F Assertion → Assertion
assertion_step RawAssert-F.True = Truth
assertion_step RawAssert-F.False = Falsity
assertion_step (RawAssert-F.Compare left relation right) = Comparison (sum_of left) relation (sum_of right)
assertion_step (RawAssert-F.Not a) = Negation a.value
assertion_step (RawAssert-F.And all) = Conjunction (listed all.items)
assertion_step (RawAssert-F.Or all) = Disjunction (listed all.items)
assertion_step (RawAssert-F.Implies left right) = Implication left.value right.value

abbrev pub assertion_of : RawAssert → Assertion
assertion_of = fold-RawAssert Assertion assertion_step

abbrev pub note_of : RawNote → Note
note_of n = record { place = n.span; value = assertion_of n.assertion }

abbrev pub basic_of : RawBasic → Basic
basic_of basics.Skip = Skip
basic_of (basics.Assign name sum) = Assign name (sum_of sum)

abbrev pub element_of : RawElement → Placed Basic
element_of e = record { place = e.span; value = basic_of e.basic }

-- a statement of a list, with its assertion
pub record Item : Type 0 where
  pub before : Note
  pub place : Span
  pub stmt : Stmt

-- statements, and what follows them
abbrev pub items_then : List Item → Seq → Seq
items_then [] rest = rest
items_then (i ∷ items) rest = item i.before i.place i.stmt (items_then items rest)

abbrev pub stmt_step : RawStmt-F Stmt Item Seq → Stmt
stmt_step (RawStmt-F.Basic basic) = Simple (basic_of basic)
stmt_step (RawStmt-F.If test then other) = choice (assertion_of test) then other
stmt_step (RawStmt-F.While test body) = While (assertion_of test) body
stmt_step (RawStmt-F.Await guard body) = Await (assertion_of guard) (map element_of body.items)

abbrev pub item_step : RawItem-F Stmt Item Seq → Item
item_step i = record { before = note_of i.before; place = i.span; stmt = i.stmt }

abbrev pub seq_step : RawSeq-F Stmt Item Seq → Seq
seq_step s = items_then s.items.items (finish (note_of s.last))

abbrev pub stmt_of : RawStmt → Stmt
stmt_of = fold-RawStmt Stmt Item Seq stmt_step item_step seq_step

abbrev pub item_of : RawItem → Item
item_of = fold-RawItem Stmt Item Seq stmt_step item_step seq_step

-- a step after the assertion before it
abbrev pub item_of_step : Note → Step → Item
item_of_step before step = record { before = before; place = step.stmt.place; stmt = step.stmt.value }

abbrev pub seq_of : RawSeq → Seq
seq_of = fold-RawSeq Stmt Item Seq stmt_step item_step seq_step

abbrev pub seqs_of : RawProcesses → List Seq
seqs_of processes = seq_of processes.first ∷ map seq_of processes.others.items

abbrev pub tree_of : Raw → Outline
tree_of raw = record {
  vars = raw.vars.items;
  auxes = raw.auxes.items;
  pre = note_of raw.pre;
  prologue = option_map seq_of raw.prologue;
  cobegin = raw.cobegin;
  processes = seqs_of raw.processes;
  epilogue = option_map seq_of raw.epilogue;
  post = note_of raw.post;
}

abbrev pub front_of : RawFront → Front
front_of front = record {
  vars = front.vars.items;
  auxes = front.auxes.items;
  pre = note_of front.pre;
  prologue = option_map seq_of front.prologue;
}

abbrev pub back_of : RawBack → Back
back_of back = record {
  cobegin = back.cobegin;
  processes = seqs_of back.processes;
  epilogue = option_map seq_of back.epilogue;
  post = note_of back.post;
}
