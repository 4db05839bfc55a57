-- The conditions of an outline, put together from its groups.
use Rattle.std.proofs.Common.{◌≡◌, ℕ, suc, ◌+◌, ◌-◌, ◌<◌, ◌≤◌, List, [], ◌∷◌, ◌++◌, map, length, take, drop, get_or, slice_get, Option, Some, None, option_map, Result, Err, subst, refl, sym, ap, ap₂, ◌∙◌, append_assoc, arith}
use Rattle.std.proofs.lemmas.List.{drop_more, drop_all, take-map, drop-map, length-map}
use Rattle.std.proofs.lemmas.Option.{slice_get_within, slice_get-map, get_or_from_slice_get}
use Rattle.std.proofs.Math.Seq.{take-suc}
use Rattle.std.specs.Prelude.{flat_map}
use Rattle.og_typed.specs.Syntax.{Program}
use Rattle.og_typed.specs.Rule.{IsOutline}
use Rattle.og_cond.specs.Condition.{Condition}
use Rattle.og_cond.specs.Conditions.{Action, conditions, interference, prologue_conditions, start_condition, end_condition, epilogue_conditions, blocking_condition, seq_conditions}
use Rattle.og_cond.specs.Crossing.{Side, side_of, crosses, action_crossings, side_crossings, crossings}
use Rattle.og_cond.specs.Groups.{first_conditions, last_conditions, crossings_from, steps_from, rest_at, left_at, IsStarted}
use Rattle.og_cond.specs.Sides.{action_of, side_seen}
use Rattle.og_cond.specs.declared.fault.ConditionsError.{ConditionsError}
use Rattle.og_cond.specs.declared.fault.ConditionsError.TheVariants as errors
use Rattle.og_cond.specs.declared.groups.Groups.{Groups}
use Rattle.og_cond.specs.declared.groups.Next.TheVariants as next
use Rattle.og_cond.specs.declared.watched.Move.{Move}
use Rattle.og_cond.specs.declared.watched.Side.{Side as Listed}
use Rattle.og_cond.proofs.SideLists.{interference_crossed}

pub from_zero : (n : ℕ) (earlier later : List Side) → crossings_from n 0 earlier later ≡ crossings crosses n earlier later
from_zero n earlier [] = refl
from_zero n earlier (side ∷ later) = refl

regrouped : (p s l i f b : List Condition) (e : Condition) → (p ++ (s ++ (l ++ (i ++ e ∷ f)))) ++ b ≡ (p ++ (s ++ l)) ++ (i ++ e ∷ (f ++ b))
regrouped p s l i f b e = simp append_assoc

-- all of them are the first, interference and the last
pub whole_grouped : (o : Program) → IsOutline o → (sides : List Side) → sides ≡ map side_of o.processes →
    conditions o ≡ first_conditions o ++ (crossings_from (length o.names) 0 [] sides ++ last_conditions o)
whole_grouped o rule sides same =
    let n : ℕ = length o.names in
    let crossed : crossings_from n 0 [] sides ≡ interference n [] o.processes =
    from_zero n [] sides ∙ ap (crossings crosses n []) same ∙ interference_crossed n rule.few n o.processes rule.usable in
    regrouped (prologue_conditions o o.prologue) (map (start_condition o) o.processes) (flat_map (seq_conditions n) o.processes) (interference n [] o.processes) (epilogue_conditions o o.epilogue) (blocking_condition o ∷ []) (end_condition o)
    ∙ ap (λ i. first_conditions o ++ (i ++ last_conditions o)) (sym crossed)

-- ---- one step of the listing

module _ (n : ℕ) (sides : List Side) (p : ℕ) (side : Side) (found : slice_get sides p ≡ Some side) where
  within : p < length sides
  within = slice_get_within sides p side found

  abbrev others : List Side
  others = take p sides ++ drop (p + 1) sides

  abbrev behind : List Condition
  behind = crossings crosses n (take p sides ++ side ∷ []) (drop (p + 1) sides)

  next_one : suc p ≡ p + 1
  next_one = omega arith

  at_side : get_or sides p side ≡ side
  at_side = get_or_from_slice_get sides p side side found

  pub from_side : drop p sides ≡ side ∷ drop (p + 1) sides
  from_side = drop_more sides p side within ∙ ap (λ s. s ∷ drop (p + 1) sides) at_side

  up_to_side : take p sides ++ side ∷ [] ≡ take (p + 1) sides
  up_to_side = ap (λ s. take p sides ++ s ∷ []) (sym at_side) ∙ sym (take-suc sides p side within) ∙ ap (λ k. take k sides) next_one

  opened : (a : ℕ) → crossings_from n a (take p sides) (drop p sides) ≡ side_crossings crosses n (drop a side.actions) others ++ behind
  opened a = ap (crossings_from n a (take p sides)) from_side

  -- an action, and those after it
  pub at_action : (a : ℕ) (e : Action) → slice_get side.actions a ≡ Some e →
      crossings_from n a (take p sides) (drop p sides)
      ≡ action_crossings crosses n e others ++ crossings_from n (a + 1) (take p sides) (drop p sides)
  at_action a e h =
      let first : drop a side.actions ≡ e ∷ drop (a + 1) side.actions =
      drop_more side.actions a e (slice_get_within side.actions a e h) ∙ ap (λ x. x ∷ drop (a + 1) side.actions) (get_or_from_slice_get side.actions a e e h) in
      opened a
      ∙ ap (λ l. side_crossings crosses n l others ++ behind) first
      ∙ append_assoc (action_crossings crosses n e others) (side_crossings crosses n (drop (a + 1) side.actions) others) behind
      ∙ ap (λ l. action_crossings crosses n e others ++ l) (sym (opened (a + 1)))

  -- behind the last action of a process
  pub past_actions : (a : ℕ) → length side.actions ≤ a →
      crossings_from n a (take p sides) (drop p sides) ≡ crossings_from n 0 (take (p + 1) sides) (drop (p + 1) sides)
  past_actions a h =
      opened a
      ∙ ap (λ l. side_crossings crosses n l others ++ behind) (drop_all a side.actions h)
      ∙ ap (λ l. crossings crosses n l (drop (p + 1) sides)) up_to_side
      ∙ sym (from_zero n (take (p + 1) sides) (drop (p + 1) sides))

  pub steps_at : (a : ℕ) → steps_from a (drop p sides) ≡ (length side.actions - a) + 1 + steps_from 0 (drop (p + 1) sides)
  steps_at a = ap (steps_from a) from_side

-- ---- the same over the values of the program

module _ (o : Program) (xs : List Listed) (p a : ℕ) (x : Listed) (found : slice_get xs p ≡ Some x) where
  abbrev sides : List Side
  sides = map side_seen xs

  abbrev n : ℕ
  n = length o.names

  seen_side : slice_get sides p ≡ Some (side_seen x)
  seen_side = slice_get-map side_seen xs p ∙ ap (option_map side_seen) found

  around : take p sides ++ drop (p + 1) sides ≡ map side_seen (take p xs) ++ map side_seen (drop (p + 1) xs)
  around = ap₂ ◌++◌ (take-map side_seen p xs) (drop-map side_seen (p + 1) xs)

  pub action_step : (m : Move) → slice_get x.moves.items a ≡ Some m →
      (rest_at o sides (next.Action p a)
      ≡ action_crossings crosses n (action_of m) (map side_seen (take p xs) ++ map side_seen (drop (p + 1) xs)) ++ rest_at o sides (next.Action p (a + 1)))
      × (left_at sides (next.Action p (a + 1)) < left_at sides (next.Action p a))
  action_step m h =
      let act : slice_get (side_seen x).actions a ≡ Some (action_of m) = slice_get-map action_of x.moves.items a ∙ ap (option_map action_of) h in
      let one = at_action n sides p (side_seen x) seen_side a (action_of m) act in
      let here = slice_get_within (side_seen x).actions a (action_of m) act in
      let now = steps_at n sides p (side_seen x) seen_side a in
      let then = steps_at n sides p (side_seen x) seen_side (a + 1) in (
        ap (λ l. l ++ last_conditions o) one
            ∙ append_assoc (action_crossings crosses n (action_of m) (take p sides ++ drop (p + 1) sides)) (crossings_from n (a + 1) (take p sides) (drop p sides)) (last_conditions o)
            ∙ ap (λ others. action_crossings crosses n (action_of m) others ++ rest_at o sides (next.Action p (a + 1))) around,
        omega (arith, now, then, here),
      )

  pub process_step : length x.moves.items ≤ a →
      (rest_at o sides (next.Action p a) ≡ rest_at o sides (next.Action (p + 1) 0))
      × (left_at sides (next.Action (p + 1) 0) < left_at sides (next.Action p a))
  process_step h =
      let out : length (side_seen x).actions ≤ a = omega (arith, h, length-map x.moves.items action_of) in
      let now = steps_at n sides p (side_seen x) seen_side a in
      (ap (λ l. l ++ last_conditions o) (past_actions n sides p (side_seen x) seen_side a out), omega (arith, now))

pub memory_started : (limit : ℕ) (o : Program) (r : Result Groups ConditionsError) (e : ConditionsError) → r ≡ Err e → e ≡ errors.Memory → length (conditions o) ≤ limit → IsStarted limit o r
memory_started limit o r e is memory few = subst (IsStarted limit o) (sym (is ∙ ap Err memory)) few
