-- The places and steps of a sequence, item by item.
use Rattle.std.proofs.Common.{◌≡◌, ℕ, ◌+◌, ◌<◌, List, [], ◌∷◌, ◌++◌, map, drop, length, get_or, drop_of_length-le, le_of_eq, sym, ap}
use Rattle.std.specs.Prelude.{None}
use Rattle.std.proofs.lemmas.List.{drop_more}
use Rattle.og_typed.specs.declared.statement.Item.{Item}
use Rattle.og_typed.specs.declared.statement.Seq.{Seq, out-Seq}
use Rattle.og_typed.specs.Syntax.{Noted}
use Rattle.og_typed.specs.Lists.{sequence_list}
use Rattle.og_typed.specs.Plain.{noted, statement, sequence, item_of}
use Rattle.og_typed.proofs.Lists.{sequence_out}
use Rattle.og_typed.specs.declared.sites.Part.{Part}
use Rattle.og_review_text.specs.Points.{Point, sequence_points, item_points}
use Rattle.og_review_text.specs.Steps.{Step, sequence_steps, item_steps}

-- of these items, up to the last assertion
abbrev pub points_from : Part → List Item → Noted → List Point
points_from part items last = sequence_points part (sequence_list (map item_of items) last)

abbrev pub steps_from : Part → List Item → Noted → List Step
steps_from part items last = sequence_steps part (sequence_list (map item_of items) last)

pub whole_points : (part : Part) (q : Seq) → points_from part (out-Seq q).items.items (noted (out-Seq q).last) ≡ sequence_points part (sequence q)
whole_points part q = ap (sequence_points part) (sym (sequence_out q))

pub last_point : (part : Part) (items : List Item) (last : Noted) (i : ℕ) → length items ≡ i → points_from part (drop i items) last ≡ record { part = part; note = last; next = None } ∷ []
last_point part items last i e = ap (λ l. points_from part l last) (drop_of_length-le items (le_of_eq e))

pub more_points : (part : Part) (items : List Item) (last : Noted) (i : ℕ) (d : Item) → i < length items → points_from part (drop i items) last ≡ item_points part (noted (get_or items i d).before) (statement (get_or items i d).stmt) (get_or items i d).at ++ points_from part (drop (i + 1) items) last
more_points part items last i d lt = ap (λ l. points_from part l last) (drop_more items i d lt)

pub whole_steps : (part : Part) (q : Seq) → steps_from part (out-Seq q).items.items (noted (out-Seq q).last) ≡ sequence_steps part (sequence q)
whole_steps part q = ap (sequence_steps part) (sym (sequence_out q))

pub no_steps : (part : Part) (items : List Item) (last : Noted) (i : ℕ) → length items ≡ i → steps_from part (drop i items) last ≡ []
no_steps part items last i e = ap (λ l. steps_from part l last) (drop_of_length-le items (le_of_eq e))

pub more_steps : (part : Part) (items : List Item) (last : Noted) (i : ℕ) (d : Item) → i < length items → steps_from part (drop i items) last ≡ item_steps part (statement (get_or items i d).stmt) (get_or items i d).at ++ steps_from part (drop (i + 1) items) last
more_steps part items last i d lt = ap (λ l. steps_from part l last) (drop_more items i d lt)
