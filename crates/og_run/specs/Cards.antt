-- What the seats of an arena know.
use Rattle.std.specs.Prelude.{◌≡◌, ℕ, ◌≤◌, Bool, true, false, List, [], ◌++◌, ◌⊎◌, length, replicate, slice_get, slice_set, Some, None, Option}
use mathlib.Core.Option.{some}
use lib.ListN.{get_elem?}
use Rattle.atomic_table.specs.Table.{State, Me, Step}
use Rattle.atomic_table.specs.Seated.{TableId}
use Rattle.atomic_table.specs.declared.shared.Seat.{Seat}
use Rattle.og_run.specs.Runs.{Given}
use Rattle.og_run.specs.Histories.{process_count, moves_of}
use Rattle.og_typed.specs.Syntax.{Program, True}
use Rattle.og_run.specs.declared.turn.RunTurn.{RunTurn}
use Rattle.og_run.specs.declared.rule.Card.{Card}
use Rattle.og_run.specs.declared.rule.Listed.{Listed}
use Rattle.og_run.specs.declared.rule.View.{View}
use Rattle.og_run.specs.declared.turn.RunTurn.TheVariants.{Overflow, Done, Stuck, Limit}
use Rattle.og_run.specs.Turns.{IsTurn, SomeOverflows, after_turn, is_overflow}

abbrev pub card : Given → List ℕ → Bool → Card
card given heard halted = record { given = given; heard = heard; halted = halted }

abbrev pub listed : Card → Bool → Listed
listed c out = record { card = c; out = out }

-- no outline
abbrev pub no_program : Program
no_program = record {
  names = [];
  vars = 0;
  aux_values = [];
  pre = record { assertion = True; at = 0 };
  prologue = None;
  processes = [];
  epilogue = None;
  post = record { assertion = True; at = 0 };
  cobegin_at = 0;
}

abbrev pub no_given : Given
no_given = record { outline = no_program; values = []; limit = 0 }

abbrev pub no_card : Card
no_card = card no_given [] false

-- the name of no table
abbrev pub no_table : TableId
no_table = record { words = 0; slots = 0; views_name = 0; atom = 0; block = 0; offset = 0; slot_names = [] }

-- the arena's own seat lists each process's card, and whether it is out
abbrev pub keeper : List Listed → View
keeper cards = record { keeps = true; cards = cards; holds = false; process = 0; card = no_card }

-- a process's seat
abbrev pub holder : ℕ → Card → View
holder p c = record { keeps = false; cards = []; holds = true; process = p; card = c }

-- the arena's seat with a card that it took in, beside those listed
abbrev pub with_card : View → View → View
with_card v w = record { keeps = v.keeps; cards = v.cards; holds = w.holds; process = w.process; card = w.card }

abbrev pub nobody : View
nobody = record { keeps = false; cards = []; holds = false; process = 0; card = no_card }

-- at the start every card is empty and taken in
abbrev pub unstarted_cards : Given → List Listed
unstarted_cards g = replicate (process_count g.outline) (listed (card g [] false) false)

abbrev pub Fits : ℕ → List Listed → ℕ → View → Type 0
Fits seat cards by v = (v.keeps ≡ true → (by ≡ seat) × (v.cards ≡ cards)) × (v.holds ≡ true → slice_get cards v.process ≡ Some (listed v.card true))

-- One seat lists each process's card. A card that is listed as out is with one seat at most, and it is the listed one; a card that is not is with none
pub record Kept (given : Given) (s : State (Unit {0}) View) : Type 0 where
  pub one_word : length s.words ≡ 1
  pub seat : ℕ
  pub cards : List Listed
  pub fits : (by : ℕ) (v : View) → get_elem? s.views by ≡ some v → Fits seat cards by v
  pub alone : (by other : ℕ) (v w : View) → get_elem? s.views by ≡ some v → get_elem? s.views other ≡ some w → v.holds ≡ true → w.holds ≡ true → v.process ≡ w.process → by ≡ other

-- the arena's seat lists a card of the process p, and hands it out
abbrev pub gives : ℕ → Card → View → View
gives p c v = record { keeps = v.keeps; cards = slice_set v.cards p (listed c true); holds = v.holds; process = v.process; card = v.card }

-- the card that was taken in is the listed one, and is listed as in
abbrev pub Confirms : Step (Unit {0}) → Me (Unit {0}) View → ℕ → Me (Unit {0}) View → Type 0
Confirms st m found m' = (slice_get m.0.cards m.0.process ≡ Some (listed m.0.card true)) × (m' ≡ (keeper (slice_set m.0.cards m.0.process (listed m.0.card false)), m.1))

-- the card of p is of this given, and has heard a beginning of the history with all moves of p; where it heard of a halt, all of it
abbrev pub CardFits : Given → List ℕ → Bool → ℕ → Card → Type 0
CardFits given history halted p c =
    (c.given ≡ given) × (rest : List ℕ) × (history ≡ c.heard ++ rest) × (moves_of p rest ≡ 0) × (c.halted ≡ true → (rest ≡ []) × (halted ≡ true))

-- one card for each process, each fitting
abbrev pub AllFit : Given → List ℕ → Bool → List Listed → Type 0
AllFit given history halted cards = (length cards ≡ process_count given.outline) × ((p : ℕ) (x : Listed) → slice_get cards p ≡ Some x → CardFits given history halted p x.card)

-- what contracts see of a process's seat
pub record Place : Type 0 where
  pub process : ℕ
  pub card : Card

-- One act. Others' moves came between the part heard and h, and then the process's own turn; or some process has overflowed, and the answer says so
abbrev pub Acts : ℕ → Card → RunTurn → Card → Type 0
Acts p c turn d =
    (d.given ≡ c.given) × (between : List ℕ) × (moves_of p between ≡ 0)
    × (let h = c.heard ++ between in
    ((c.halted ≡ false) × IsTurn c.given h p turn × (is_overflow turn ≡ false) × (d.halted ≡ false) × (d.heard ≡ after_turn turn h p))
    ⊎ ((turn ≡ Overflow) × (d.halted ≡ true) × (d.heard ≡ h) × SomeOverflows c.given h))

abbrev pub card_in : Option (Seat (Unit {0}) View) → Card
card_in (Some t) = t.me.0.card
card_in None = no_card

-- the token is of this table, and holds a card of p
abbrev pub IsTokenOf : TableId → ℕ → Option (Seat (Unit {0}) View) → Type 0
IsTokenOf table p (Some t) = (t.table_id ≡ table) × (t.me ≡ (holder p t.me.0.card, []))
IsTokenOf table p None = ⊥

-- where a machine stands
pub record Position : Type 0 where
  pub given : Given
  pub history : List ℕ
  pub halted : Bool

abbrev pub card_at : Position → Card
card_at p = card p.given p.history p.halted

-- the arena's seat lists a fitting card for each process
abbrev pub Lists : Position → View → Type 0
Lists at v = (cards : List Listed) × (v ≡ keeper cards) × AllFit at.given at.history at.halted cards

-- a table for the machine of this given
pub record For : Type 0 where
  pub table : TableId
  pub given : Given

-- one seat for each process, in order, with an empty card
abbrev pub SeatsFor : Given → List Place → Type 0
SeatsFor given seats = (length seats ≡ process_count given.outline) × ((p : ℕ) (s : Place) → slice_get seats p ≡ Some s → (s.process ≡ p) × (s.card ≡ card given [] false))

-- the seats of the processes below p were handed out
abbrev pub Handed : Given → ℕ → View → Type 0
Handed given p v =
    (cards : List Listed) × (v ≡ keeper cards) × (length cards ≡ process_count given.outline)
    × ((q : ℕ) (x : Listed) → slice_get cards q ≡ Some x → (x.card ≡ card given [] false) × (p ≤ q → x.out ≡ false))

abbrev pub FirstSeats : Given → ℕ → List Place → Type 0
FirstSeats given p seats = (length seats ≡ p) × ((q : ℕ) (s : Place) → slice_get seats q ≡ Some s → (s.process ≡ q) × (s.card ≡ card given [] false))

-- the process of the seat has come to an end
abbrev pub EndOf : Place → Type 0
EndOf s =
    (s.card.halted ≡ true) ⊎ IsTurn s.card.given s.card.heard s.process Done ⊎ IsTurn s.card.given s.card.heard s.process Stuck ⊎ IsTurn s.card.given s.card.heard s.process Limit

-- the seat came back, and its process has come to an end
abbrev pub CameBack : Place → Place → Type 0
CameBack s e = (e.process ≡ s.process) × (e.card.given ≡ s.card.given) × EndOf e
