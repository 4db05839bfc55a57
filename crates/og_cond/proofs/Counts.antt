-- Counts of a sequence, item by item.
use Rattle.std.proofs.Common.{◌≡◌, ℕ, ◌+◌, ◌<◌, ◌≤◌, Bool, List, [], ◌∷◌, ◌++◌, Option, Some, None, ◌∙◌, arith, map, drop, length, get_or, drop_of_length-le, sym, ap, subst}
use Rattle.std.proofs.lemmas.List.{drop_more}
use Rattle.og_typed.specs.declared.statement.Item.{Item}
use Rattle.og_typed.specs.declared.statement.Seq.{Seq, out-Seq}
use Rattle.og_typed.specs.Syntax.{Noted, Sequence}
use Rattle.og_typed.specs.Lists.{sequence_list}
use Rattle.og_typed.specs.Plain.{noted, statement, sequence, item_of}
use Rattle.og_typed.proofs.Lists.{sequence_out}
use Rattle.og_cond.specs.Sets.{watches}
use Rattle.og_cond.specs.Counting.{Leaves, all_hits, seq_count, stmt_count, seq_hits, stmt_hits, note_count, seq_breaks, stmt_breaks}

-- the sequence of these items
abbrev pub sequence_from : List Item → Noted → Sequence
sequence_from items last = sequence_list (map item_of items) last

abbrev pub count_from : List Item → Noted → ℕ
count_from items last = seq_count (sequence_from items last)

pub whole_count : (q : Seq) → count_from (out-Seq q).items.items (noted (out-Seq q).last) ≡ seq_count (sequence q)
whole_count q = ap seq_count (sym (sequence_out q))

pub no_count : (items : List Item) (last : Noted) (i : ℕ) → length items ≤ i → count_from (drop i items) last ≡ 0
no_count items last i h = ap (λ l. count_from l last) (drop_of_length-le items h)

pub more_count : (items : List Item) (last : Noted) (i : ℕ) (d : Item) → i < length items → count_from (drop i items) last ≡ stmt_count (statement (get_or items i d).stmt) + count_from (drop (i + 1) items) last
more_count items last i d h = ap (λ l. count_from l last) (drop_more items i d h)

module _ (test : ℕ → Bool) where
  abbrev pub hits_from : List Item → Noted → ℕ
  hits_from items last = seq_hits test (sequence_from items last)

  pub whole_hits : (q : Seq) → hits_from (out-Seq q).items.items (noted (out-Seq q).last) ≡ seq_hits test (sequence q)
  whole_hits q = ap (seq_hits test) (sym (sequence_out q))

  pub no_hits : (items : List Item) (last : Noted) (i : ℕ) → length items ≤ i → hits_from (drop i items) last ≡ 0
  no_hits items last i h = ap (λ l. hits_from l last) (drop_of_length-le items h)

  pub more_hits : (items : List Item) (last : Noted) (i : ℕ) (d : Item) → i < length items → hits_from (drop i items) last ≡ stmt_hits test (statement (get_or items i d).stmt) + hits_from (drop (i + 1) items) last
  more_hits items last i d h = ap (λ l. hits_from l last) (drop_more items i d h)

module _ (others : List Sequence) where
  abbrev pub breaks_from : List Item → Noted → ℕ
  breaks_from items last = seq_breaks others (sequence_from items last)

  pub whole_breaks : (q : Seq) → breaks_from (out-Seq q).items.items (noted (out-Seq q).last) ≡ seq_breaks others (sequence q)
  whole_breaks q = ap (seq_breaks others) (sym (sequence_out q))

  pub no_breaks : (items : List Item) (last : Noted) (i : ℕ) → length items ≤ i → breaks_from (drop i items) last ≡ 0
  no_breaks items last i h = ap (λ l. breaks_from l last) (drop_of_length-le items h)

  pub more_breaks : (items : List Item) (last : Noted) (i : ℕ) (d : Item) → i < length items → breaks_from (drop i items) last ≡ note_count others (noted (get_or items i d).before) + (stmt_breaks others (statement (get_or items i d).stmt) + breaks_from (drop (i + 1) items) last)
  more_breaks items last i d h = ap (λ l. breaks_from l last) (drop_more items i d h)

-- ---- room

pub leaves_more : (room left m n k : ℕ) (r : Option ℕ) → left + m ≡ room → k ≡ m + n → Leaves left n r → Leaves room k r
leaves_more room left m n k None e f h = omega (arith, e, f, h)
leaves_more room left m n k (Some rest) e f h = omega (arith, e, f, h)

pub leaves_none : (room n : ℕ) (r : Option ℕ) → room < n → r ≡ None → Leaves room n r
leaves_none room n r lt e = subst (Leaves room n) (sym e) lt

-- ---- processes

pub all_hits-append : (test : ℕ → Bool) (ps qs : List Sequence) → all_hits test (ps ++ qs) ≡ all_hits test ps + all_hits test qs
all_hits-append test [] qs = omega arith
all_hits-append test (p ∷ ps) qs = omega (arith, all_hits-append test ps qs)

-- counted by a set in place of the assertion
pub note_hits : (test : ℕ → Bool) (ps qs : List Sequence) (note : Noted) → ((x : ℕ) → test x ≡ watches note.assertion x) → note_count (ps ++ qs) note ≡ all_hits test ps + all_hits test qs
note_hits test ps qs note same =
    let e : watches note.assertion ≡ test = λ i x. sym (same x) i in
    ap (λ t. all_hits t (ps ++ qs)) e ∙ all_hits-append test ps qs
