-- An action as a map from variables to forms, and assertions under it, as far as each number fits 128 bits.
use Rattle.std.specs.Prelude.{pos, negsuc, List, [], ◌∷◌, Option, Some, option_and_then, option_map}
use Rattle.og_linear.specs.Linear.{FormValue, form_value}
use Rattle.og_linear.specs.Bounded.{MapValue, map_set, apply, add_scaled}
use Rattle.og_typed.specs.Syntax.{Formula, True, False, Le, Eq, Ne, Not, And, Or, Imp, Formulas, none, more, Simple, Pass, Set}

-- ---- the map of an action

-- each assignment in order sets its variable to its form under the map so far
abbrev pub forward_on : List Simple → MapValue → Option MapValue
forward_on [] m = Some m
forward_on (Pass ∷ rest) m = forward_on rest m
forward_on (Set x e ∷ rest) m = option_and_then (λ v. forward_on rest (map_set m x v)) (apply m e)

-- at the beginning every variable is itself
abbrev pub forward : List Simple → Option MapValue
forward body = forward_on body []

-- the form of each assigned value, in order
abbrev pub values_on : List Simple → MapValue → Option (List FormValue)
values_on [] m = Some []
values_on (Pass ∷ rest) m = values_on rest m
values_on (Set x e ∷ rest) m =
    option_and_then (λ v. option_map (λ others. v ∷ others) (values_on rest (map_set m x v))) (apply m e)

abbrev pub values : List Simple → Option (List FormValue)
values body = values_on body []

-- ---- an assertion after an action

-- the assertion with the map's forms in place of the variables
abbrev mutual
  pub after : MapValue → Formula → Option Formula
  after m True = Some True
  after m False = Some False
  after m (Le f) = option_map Le (apply m f)
  after m (Eq f) = option_map Eq (apply m f)
  after m (Ne f) = option_map Ne (apply m f)
  after m (Not a) = option_map Not (after m a)
  after m (And all) = option_map And (after_all m all)
  after m (Or all) = option_map Or (after_all m all)
  after m (Imp a b) = option_and_then (λ x. option_map (Imp x) (after m b)) (after m a)

  pub after_all : MapValue → Formulas → Option Formulas
  after_all m none = Some none
  after_all m (more a rest) = option_and_then (λ x. option_map (more x) (after_all m rest)) (after m a)

abbrev pub after_action : List Simple → Formula → Option Formula
after_action body a = option_and_then (λ m. after m a) (forward body)

-- ---- the values of an action fit

-- -v - 2^63 is at most 0
abbrev pub low : FormValue → Option FormValue
low v = add_scaled (form_value [] (negsuc 9223372036854775807)) (negsuc 0) v

-- v - (2^63 - 1) is at most 0
abbrev pub high : FormValue → Option FormValue
high v = add_scaled (form_value [] (negsuc 9223372036854775806)) (pos 1) v

-- each value is an i64
abbrev pub ranges : List FormValue → Option Formulas
ranges [] = Some none
ranges (v ∷ vs) =
    option_and_then (λ l. option_and_then (λ h. option_map (λ others. more (Le l) (more (Le h) others)) (ranges vs)) (high v)) (low v)

-- each value of the action, in order, is an i64
abbrev pub fits : List Simple → Option Formula
fits body = option_and_then (λ vs. option_map And (ranges vs)) (values body)
