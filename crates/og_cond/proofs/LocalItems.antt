-- The conditions of a sequence, item by item.
use Rattle.std.proofs.Common.{◌≡◌, ℕ, ◌+◌, ◌<◌, List, [], ◌++◌, map, drop, length, get_or, drop_of_length-le, le_of_eq, sym, ap, ◌∙◌}
use Rattle.std.proofs.lemmas.List.{drop_more}
use Rattle.og_typed.specs.declared.statement.Item.{Item}
use Rattle.og_typed.specs.declared.statement.Seq.{Seq, out-Seq}
use Rattle.og_typed.specs.Syntax.{Noted}
use Rattle.og_typed.specs.Lists.{sequence_list}
use Rattle.og_typed.specs.Plain.{formula, noted, statement, sequence, item_of, first_or}
use Rattle.og_typed.proofs.Lists.{sequence_out, first_list}
use Rattle.og_cond.specs.Condition.{Condition}
use Rattle.og_cond.specs.Conditions.{seq_conditions, stmt_conditions}

-- the conditions of these items, up to the last assertion
abbrev pub item_conditions : ℕ → List Item → Noted → List Condition
item_conditions n items last = seq_conditions n (sequence_list (map item_of items) last)

pub all_items : (n : ℕ) (q : Seq) → item_conditions n (out-Seq q).items.items (noted (out-Seq q).last) ≡ seq_conditions n (sequence q)
all_items n q = ap (seq_conditions n) (sym (sequence_out q))

pub no_items : (n : ℕ) (items : List Item) (last : Noted) (i : ℕ) → length items ≡ i → item_conditions n (drop i items) last ≡ []
no_items n items last i e = ap (λ l. item_conditions n l last) (drop_of_length-le items (le_of_eq e))

pub more_items : (n : ℕ) (items : List Item) (last after : Noted) (i : ℕ) (d : Item) → i < length items → after ≡ first_or (drop (i + 1) items) last → item_conditions n (drop i items) last ≡ stmt_conditions n (formula (get_or items i d).before.assertion) (get_or items i d).at (statement (get_or items i d).stmt) after.assertion ++ item_conditions n (drop (i + 1) items) last
more_items n items last after i d lt e =
    let x = get_or items i d in
    let rest = drop (i + 1) items in
    ap (λ l. item_conditions n l last) (drop_more items i d lt)
    ∙ ap (λ m. stmt_conditions n (formula x.before.assertion) x.at (statement x.stmt) m.assertion ++ item_conditions n rest last) (first_list rest last ∙ sym e)
