-- The tree of a value that holds a `Vec`, by the items of the `Vec`.
use Rattle.std.proofs.Common.{◌≡◌, ℕ, List, [], ◌∷◌, map, Vec, Global, refl, ap, ◌∙◌}
use Rattle.og_typed.specs.declared.assertion.Assert.{Assert, Row_of-Assert, end_of-Assert, more_of-Assert, items-the_row-Assert, items_hidden-the_row-Assert-0}
use Rattle.og_typed.specs.declared.assertion.Assert.TheViews as its
use Rattle.og_typed.specs.declared.assertion.Assert.TheBlock.{hidden-the_row-Assert-0}
use Rattle.og_typed.specs.Syntax.{Formula, And, Or, Noted, Statement, Sequence, Then, last_of, items}
use Rattle.og_typed.specs.Lists.{formula_list, sequence_list}
use Rattle.og_typed.specs.Pieces.{first_of}
use Rattle.og_typed.specs.declared.statement.Item.{Item}
use Rattle.og_typed.specs.declared.statement.Seq.{Seq, is-Seq', out-Seq, Row_of-Item, end_of-Item, more_of-Item, items-the_row-Item, items_hidden-the_row-Item-0}
use Rattle.og_typed.specs.declared.statement.Stmt.TheBlock.{hidden-the_row-Item-0}
use Rattle.og_typed.specs.Plain.{formula, formulas, noted, statement, sequence, sequence_of, item_of, item_pair, first_or}

formulas_items : (n : _) (row : Row_of-Assert n) → formulas row ≡ formula_list (map formula (items-the_row-Assert n row))
formulas_items _ end_of-Assert = refl
formulas_items _ (more_of-Assert a rest) = ap (λ fs. Rattle.og_typed.specs.Syntax.more (formula a) fs) (formulas_items _ rest)

formulas_vec : (v : Vec Assert Global) → formulas (hidden-the_row-Assert-0 v) ≡ formula_list (map formula v.items)
formulas_vec v = formulas_items _ (hidden-the_row-Assert-0 v) ∙ ap (λ l. formula_list (map formula l)) (items_hidden-the_row-Assert-0 v)

pub formula_and : (v : Vec Assert Global) → formula (its.And v) ≡ And (formula_list (map formula v.items))
formula_and v = ap And (formulas_vec v)

pub formula_or : (v : Vec Assert Global) → formula (its.Or v) ≡ Or (formula_list (map formula v.items))
formula_or v = ap Or (formulas_vec v)

-- ---- sequences

sequence_items : (n : _) (row : Row_of-Item n) (last : Noted) → sequence_of row last ≡ sequence_list (map item_of (items-the_row-Item n row)) last
sequence_items _ end_of-Item last = refl
sequence_items _ (more_of-Item before stmt at rest) last = ap (λ r. Then (noted before) (statement stmt) at r) (sequence_items _ rest last)

pub sequence_out : (q : Seq) → sequence q ≡ sequence_list (map item_of (out-Seq q).items.items) (noted (out-Seq q).last)
sequence_out q =
    ap sequence (is-Seq' q)
    ∙ sequence_items _ (hidden-the_row-Item-0 (out-Seq q).items) (noted (out-Seq q).last)
    ∙ ap (λ l. sequence_list (map item_of l) (noted (out-Seq q).last)) (items_hidden-the_row-Item-0 (out-Seq q).items)

pub last-list : (items : List (Noted × Statement × ℕ)) (last : Noted) → last_of (sequence_list items last) ≡ last
last-list [] last = refl
last-list (item ∷ items) last = last-list items last

pub last_out : (q : Seq) → last_of (sequence q) ≡ noted (out-Seq q).last
last_out q = ap last_of (sequence_out q) ∙ last-list (map item_of (out-Seq q).items.items) (noted (out-Seq q).last)

pub first_list : (items : List Item) (last : Noted) → first_of (sequence_list (map item_of items) last) ≡ first_or items last
first_list [] last = refl
first_list (item ∷ items) last = refl

pub first_out : (q : Seq) → first_of (sequence q) ≡ first_or (out-Seq q).items.items (noted (out-Seq q).last)
first_out q = ap first_of (sequence_out q) ∙ first_list (out-Seq q).items.items (noted (out-Seq q).last)

pub items_list : (is : List Item) (last : Noted) → items (sequence_list (map item_of is) last) ≡ map item_pair is
items_list [] last = refl
items_list (item ∷ is) last = ap (λ r. item_pair item ∷ r) (items_list is last)

pub items_out : (q : Seq) → items (sequence q) ≡ map item_pair (out-Seq q).items.items
items_out q = ap items (sequence_out q) ∙ items_list (out-Seq q).items.items (noted (out-Seq q).last)
