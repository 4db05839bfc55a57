-- The loop over the items of a sequence.
use Rattle.std.proofs.Common.{◌≡◌, ℕ, ◌+◌, ◌<◌, ◌≤◌, List, [], ◌∷◌, ◌++◌, map, length, drop, get_or, refl, sym, ap, ◌∙◌}
use Rattle.std.specs.Prelude.{Ok, Err}
use Rattle.og_typed.specs.declared.fault.TypeFault.{TypeFault}
use Rattle.og_typed.specs.Syntax.{Noted, Statement, Sequence, Last, Then}
use Rattle.og_typed.specs.Lists.{sequence_list}
use Rattle.og_typed.specs.Resolved.{Checked, ◌>>=◌, Scope, Free, note, statement, sequence}
use Rattle.og_typed.specs.declared.statement.Item.{Item}
use Rattle.og_typed.specs.Plain.{noted, item_of}
use Rattle.og_typed.specs.Plain as plain
use Rattle.og_parse.specs.declared.raw.RawItem.{RawItem}
use Rattle.og_parse.specs.Trees as tree
use Rattle.og_parse.specs.TreeOf as read
use Rattle.og_typed.proofs.Behind.{drop_at, drop_all, map_push}

-- the sequence after these items
abbrev pub after_items : List (Noted × Statement × ℕ) → Checked Sequence → Checked Sequence
after_items [] answer = answer
after_items (item ∷ items) answer = after_items items answer >>= λ rest. Ok (Then item.0 item.1 item.2 rest)

pub after_fault : (items : List (Noted × Statement × ℕ)) (fault : TypeFault) → after_items items (Err fault) ≡ Err fault
after_fault [] fault = refl
after_fault (item ∷ items) fault = ap (λ (answer : Checked Sequence). answer >>= λ rest. Ok (Then item.0 item.1 item.2 rest)) (after_fault items fault)

pub after_more : (items : List (Noted × Statement × ℕ)) (item : Noted × Statement × ℕ) (answer : Checked Sequence) → after_items (items ++ item ∷ []) answer ≡ after_items items (answer >>= λ rest. Ok (Then item.0 item.1 item.2 rest))
after_more [] item answer = refl
after_more (first ∷ items) item answer = ap (λ (a : Checked Sequence). a >>= λ rest. Ok (Then first.0 first.1 first.2 rest)) (after_more items item answer)

pub after_all : (items : List (Noted × Statement × ℕ)) (last : Noted) → after_items items (Ok (Last last)) ≡ Ok (sequence_list items last)
after_all [] last = refl
after_all (item ∷ items) last = ap (λ (a : Checked Sequence). a >>= λ rest. Ok (Then item.0 item.1 item.2 rest)) (after_all items last)

module _ (scope : Scope) (rest : tree.Seq) where
  step : (item : read.Item) (items : List read.Item) (b : Noted) (s : Statement) → note scope Free item.before ≡ Ok b → statement scope item.stmt ≡ Ok s
      → sequence scope (read.items_then (item ∷ items) rest) ≡ (sequence scope (read.items_then items rest) >>= λ q. Ok (Then b s item.place.start q))
  step item items b s e f =
      ap (λ (answer : Checked Noted). answer >>= λ c. statement scope item.stmt >>= λ d. sequence scope (read.items_then items rest) >>= λ q. Ok (Then c d item.place.start q)) e
      ∙ ap (λ (answer : Checked Statement). answer >>= λ d. sequence scope (read.items_then items rest) >>= λ q. Ok (Then b d item.place.start q)) f

  -- a turn of the loop
  pub item_turn : (out new : List Item) (made : Item) (all : List RawItem) (i : ℕ) (raw : RawItem) (t : read.Item) → i < length all → raw ≡ get_or all i raw → new ≡ out ++ made ∷ [] → read.item_of raw ≡ t
      → note scope Free t.before ≡ Ok (noted made.before) → statement scope t.stmt ≡ Ok (plain.statement made.stmt) → t.place.start ≡ made.at
      → after_items (map item_of new) (sequence scope (read.items_then (map read.item_of (drop (i + 1) all)) rest)) ≡ after_items (map item_of out) (sequence scope (read.items_then (map read.item_of (drop i all)) rest))
  item_turn out new made all i raw t h is pushed same e f at =
      let others = map read.item_of (drop (i + 1) all) in
      let answer = sequence scope (read.items_then others rest) in
      ap (λ l. after_items l answer) (ap (map item_of) pushed ∙ map_push item_of out made)
      ∙ after_more (map item_of out) (item_of made) answer
      ∙ ap (λ (place : ℕ). after_items (map item_of out) (answer >>= λ q. Ok (Then (noted made.before) (plain.statement made.stmt) place q))) (sym at)
      ∙ ap (after_items (map item_of out)) (sym (step t others (noted made.before) (plain.statement made.stmt) e f))
      ∙ ap (λ x. after_items (map item_of out) (sequence scope (read.items_then (x ∷ others) rest))) (sym same)
      ∙ ap (λ l. after_items (map item_of out) (sequence scope (read.items_then (map read.item_of l) rest))) (sym (drop_at all i raw h is))

  reached : (items : List (Noted × Statement × ℕ)) (all : List RawItem) (i : ℕ) (raw : RawItem) (t : read.Item) (answer : Checked Sequence) → i < length all → raw ≡ get_or all i raw → read.item_of raw ≡ t
      → after_items items (sequence scope (read.items_then (map read.item_of (drop i all)) rest)) ≡ answer → answer ≡ after_items items (sequence scope (read.items_then (t ∷ map read.item_of (drop (i + 1) all)) rest))
  reached items all i raw t answer h is same inv =
      sym inv
      ∙ ap (λ l. after_items items (sequence scope (read.items_then (map read.item_of l) rest))) (drop_at all i raw h is)
      ∙ ap (λ x. after_items items (sequence scope (read.items_then (x ∷ map read.item_of (drop (i + 1) all)) rest))) same

  -- a turn that fails at the assertion, and one that fails at the statement
  pub note_stops : (items : List (Noted × Statement × ℕ)) (all : List RawItem) (i : ℕ) (raw : RawItem) (t : read.Item) (answer : Checked Sequence) (fault : TypeFault) → i < length all → raw ≡ get_or all i raw → read.item_of raw ≡ t
      → after_items items (sequence scope (read.items_then (map read.item_of (drop i all)) rest)) ≡ answer → note scope Free t.before ≡ Err fault → answer ≡ Err fault
  note_stops items all i raw t answer fault h is same inv e =
      let others = map read.item_of (drop (i + 1) all) in
      reached items all i raw t answer h is same inv
      ∙ ap (λ (a : Checked Noted). after_items items (a >>= λ c. statement scope t.stmt >>= λ d. sequence scope (read.items_then others rest) >>= λ q. Ok (Then c d t.place.start q))) e
      ∙ after_fault items fault

  pub statement_stops : (items : List (Noted × Statement × ℕ)) (all : List RawItem) (i : ℕ) (raw : RawItem) (t : read.Item) (b : Noted) (answer : Checked Sequence) (fault : TypeFault) → i < length all → raw ≡ get_or all i raw → read.item_of raw ≡ t
      → after_items items (sequence scope (read.items_then (map read.item_of (drop i all)) rest)) ≡ answer → note scope Free t.before ≡ Ok b → statement scope t.stmt ≡ Err fault → answer ≡ Err fault
  statement_stops items all i raw t b answer fault h is same inv e f =
      let others = map read.item_of (drop (i + 1) all) in
      reached items all i raw t answer h is same inv
      ∙ ap (λ (a : Checked Noted). after_items items (a >>= λ c. statement scope t.stmt >>= λ d. sequence scope (read.items_then others rest) >>= λ q. Ok (Then c d t.place.start q))) e
      ∙ ap (λ (a : Checked Statement). after_items items (a >>= λ d. sequence scope (read.items_then others rest) >>= λ q. Ok (Then b d t.place.start q))) f
      ∙ after_fault items fault

  -- after the last statement
  pub items_end : (items : List (Noted × Statement × ℕ)) (all : List RawItem) (i : ℕ) (answer : Checked Sequence) → length all ≤ i
      → after_items items (sequence scope (read.items_then (map read.item_of (drop i all)) rest)) ≡ answer → answer ≡ after_items items (sequence scope rest)
  items_end items all i answer h inv =
      sym inv ∙ ap (λ l. after_items items (sequence scope (read.items_then (map read.item_of l) rest))) (drop_all all i h)
