-- The pieces of a sequence, item by item.
use Rattle.std.proofs.Common.{◌≡◌, ℕ, ◌+◌, ◌<◌, ◌≤◌, List, [], ◌∷◌, ◌++◌, drop, length, get_or, drop_of_length-le, sym, ap}
use Rattle.std.proofs.lemmas.List.{drop_more}
use Rattle.og_typed.specs.declared.statement.Item.{Item}
use Rattle.og_typed.specs.declared.statement.Seq.{Seq, out-Seq}
use Rattle.og_typed.specs.Syntax.{Noted}
use Rattle.og_typed.specs.Pieces.{Piece, pieces, pieces_of_stmt}
use Rattle.og_typed.specs.Plain.{noted, statement, sequence}
use Rattle.og_typed.proofs.Lists.{sequence_out}
use Rattle.og_cond.proofs.Counts.{sequence_from}

abbrev pub pieces_from : List Item → Noted → List Piece
pieces_from items last = pieces (sequence_from items last)

pub whole_pieces : (q : Seq) → pieces_from (out-Seq q).items.items (noted (out-Seq q).last) ≡ pieces (sequence q)
whole_pieces q = ap pieces (sym (sequence_out q))

pub no_pieces : (items : List Item) (last : Noted) (i : ℕ) → length items ≤ i → pieces_from (drop i items) last ≡ []
no_pieces items last i h = ap (λ l. pieces_from l last) (drop_of_length-le items h)

pub more_pieces : (items : List Item) (last : Noted) (i : ℕ) (d : Item) → i < length items → pieces_from (drop i items) last ≡ record { before = noted (get_or items i d).before; stmt = statement (get_or items i d).stmt; at = (get_or items i d).at } ∷ (pieces_of_stmt (statement (get_or items i d).stmt) ++ pieces_from (drop (i + 1) items) last)
more_pieces items last i d h = ap (λ l. pieces_from l last) (drop_more items i d h)
