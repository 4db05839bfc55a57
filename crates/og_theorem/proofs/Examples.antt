-- Three small outlines: one whose conditions are all true, and two that are not sound although all conditions but one are true.
use Rattle.std.proofs.Common.{◌≡◌, ◌^◌, ℤ, pos, ◌+ℤ◌, ◌*ℤ◌, List, [], ◌∷◌, ◌++◌, None, Some, true, false, FitsSigned, refl, ap}
use mir.Syntax.{w64}
use Rattle.std.specs.Ordering.{int_eq}
use Rattle.std.proofs.lemmas.List.Elements.{All-from_recursion}
use Rattle.std.proofs.lemmas.Bool.{and_parts, both_ways, ltb-true}
use Rattle.og_linear.specs.Linear.{FormValue, form_value, value_at, put, IsProper}
use Rattle.og_linear.proofs.Put.{put_same}
use Rattle.og_typed.specs.Syntax.{Formula, True, Eq, Noted, Assign, Sequence, Last, Then, Program}
use Rattle.og_typed.specs.Machine.{Moment, start_of}
use Rattle.og_cond.specs.declared.kind.Kind.TheVariants as kind
use Rattle.og_cond.specs.Condition.{One, Condition, Is, Yes, Holds, Fits}
use Rattle.og_cond.specs.Valid.{AreValid}
use Rattle.og_cond.specs.Conditions.{interfere_condition, safety_conditions, start_condition, end_condition, action_conditions}
use Rattle.og_theorem.specs.Sound.{IsSound}
use Rattle.og_theorem.specs.Proved.{IsProved}

-- ---- outlines with the one variable x

abbrev note : Formula → Noted
note a = record { assertion = a; at = 0 }

abbrev number : ℤ → FormValue
number v = form_value [] v

-- x + v
abbrev x_plus : ℤ → FormValue
x_plus v = form_value ((0, pos 1) ∷ []) v

-- x = 0
abbrev x_is_0 : Formula
x_is_0 = Eq (x_plus (pos 0))

-- {true} x := value {after}
abbrev assigning : FormValue → Formula → Sequence
assigning value after = Then (note True) (Assign 0 value) 0 (Last (note after))

-- {true} cobegin .. coend {post}
abbrev outline : List Sequence → Formula → Program
outline processes post = record {
  names = (120 ∷ []) ∷ [];
  vars = 1;
  aux_values = [];
  pre = note True;
  prologue = None;
  processes = processes;
  epilogue = None;
  post = note post;
  cobegin_at = 0;
}

-- every condition but this one and the last is true
record AllButOne (o : Program) (one : Condition) : Type 0 where
  before : List Condition
  behind : List Condition
  these : safety_conditions o ≡ before ++ one ∷ behind
  before_true : AreValid before
  behind_true : AreValid behind

x_set : (s : List ℤ) → int_eq (pos 1 *ℤ value_at (put s 0 (pos 0)) 0 +ℤ pos 0 +ℤ pos 0) (pos 0) ≡ true
x_set s = ap (λ v. int_eq (pos 1 *ℤ v +ℤ pos 0 +ℤ pos 0) (pos 0)) (put_same s 0 (pos 0))

-- ---- all conditions are true

-- {true} cobegin {true} x := 0 {x = 0} coend {x = 0}
abbrev quiet : Program
quiet = outline (assigning (number (pos 0)) x_is_0 ∷ []) x_is_0

pub quiet_proved : IsProved quiet true
quiet_proved = (
  ((λ s proper h. refl), ((λ s proper h. x_set s), ((λ s proper h. refl), ((λ s proper h. (and_parts _ _ h).0), tt)))),
  λ _ s proper h. absurd (both_ways false refl (and_parts _ _ h).1),
)

-- ---- without interference at last assertions

-- {true} cobegin {true} x := 0 {x = 0} // {true} x := 1 {true} coend {x = 0}
abbrev disturbed : Program
disturbed = outline (assigning (number (pos 0)) x_is_0 ∷ assigning (number (pos 1)) True ∷ []) x_is_0

-- that x := 1 keeps the last assertion of the first process is the one condition that is false
disturbed_conditions : AllButOne disturbed (interfere_condition 1 (record { at = 0; hypotheses = Is (Yes True) ∷ []; does = One 0 (number (pos 1)) }) (note x_is_0))
disturbed_conditions = record {
  before =
      start_condition disturbed (assigning (number (pos 0)) x_is_0)
      ∷ start_condition disturbed (assigning (number (pos 1)) True)
      ∷ (action_conditions 1 0 (Is (Yes True) ∷ []) (One 0 (number (pos 0))) x_is_0
      ++ action_conditions 1 0 (Is (Yes True) ∷ []) (One 0 (number (pos 1))) True);
  behind = end_condition disturbed ∷ [];
  these = refl;
  before_true = ((λ s proper h. refl), ((λ s proper h. refl), ((λ s proper h. x_set s), ((λ s proper h. refl), ((λ s proper h. refl), ((λ s proper h. refl), tt))))));
  behind_true = ((λ s proper h. (and_parts _ _ h).0), tt);
}

zero_proper : IsProper (pos 0 ∷ [])
zero_proper = All-from_recursion (FitsSigned w64) (pos 0 ∷ []) (record { sfits = ltb-true 0 (2 ^ 63) refl }, tt)

-- but the run of the first process and then the second ends with x = 1
disturbed_fails : IsSound disturbed → ⊥
disturbed_fails sound = both_ways false refl (sound.post_at_end last (pos 0 ∷ [], 0 ∷ 1 ∷ [], (refl, zero_proper, refl), refl) refl)
  where
    last : Moment
    last = record { state = pos 1 ∷ []; prologue = []; rests = [] ∷ [] ∷ []; epilogue = [] }

-- ---- without ranges

-- {true} cobegin {true} x := x + 1 {true} coend {true}
abbrev rising : Program
rising = outline (assigning (x_plus (pos 1)) True ∷ []) True

-- that x + 1 is an i64 is the one condition that is false
rising_conditions : AllButOne rising (record {
  kind = kind.Range;
  at = 0;
  action_at = None;
  variables = 1;
  hypotheses = Is (Yes True) ∷ [];
  action = Some (One 0 (x_plus (pos 1)));
  goal = Fits;
})
rising_conditions = record {
  before = start_condition rising (assigning (x_plus (pos 1)) True) ∷ record {
    kind = kind.Step;
    at = 0;
    action_at = None;
    variables = 1;
    hypotheses = Is (Yes True) ∷ [];
    action = Some (One 0 (x_plus (pos 1)));
    goal = Holds True;
  } ∷ [];
  behind = end_condition rising ∷ [];
  these = refl;
  before_true = ((λ s proper h. refl), ((λ s proper h. refl), tt));
  behind_true = ((λ s proper h. refl), tt);
}

abbrev greatest : ℤ
greatest = pos 9223372036854775807

greatest_proper : IsProper (greatest ∷ [])
greatest_proper = All-from_recursion (FitsSigned w64) (greatest ∷ []) (record { sfits = ltb-true 9223372036854775807 (2 ^ 63) refl }, tt)

-- but at the start of a run with the greatest i64 the process overflows
rising_fails : IsSound rising → ⊥
rising_fails sound =
    both_ways true (sound.never_overflows (start_of rising (greatest ∷ [])) (greatest ∷ [], [], (refl, greatest_proper, refl), refl) 0 refl) refl
