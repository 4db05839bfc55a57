-- Steps that machines have as one instruction.
use Rattle.std.specs.Prelude.{ℕ, ℤ, pos, List, [], ◌∷◌, Bool, false, not, ◌==◌, ◌&&◌, ◌||◌, nat_lt, if◌then◌else◌, Option, Some, None, is_none, slice_get}
use Rattle.std.specs.Ordering.{int_eq}
use Rattle.og_linear.specs.Linear.{FormValue, is_term}
use Rattle.og_typed.specs.Syntax.{Formula, True, False, Le, Eq, Ne, Not, And, Or, Imp, Simple, Pass, Set, Statement, Skip, Assign, If, While, Await}
use Rattle.og_review_text.specs.declared.idioms.Idiom.{Idiom}
use Rattle.og_review_text.specs.declared.idioms.Idiom.TheVariants as idioms

-- ---- what a step assigns

-- an assignment of a step: the variable, and the sum
abbrev pub Move : Type 0
Move = ℕ × FormValue

-- the assignments to variables below n, in order
abbrev pub moves_in : ℕ → List Simple → List Move
moves_in n [] = []
moves_in n (Pass ∷ rest) = moves_in n rest
moves_in n (Set x e ∷ rest) = if nat_lt x n then (x, e) ∷ moves_in n rest else moves_in n rest

-- ---- sums

-- a term is the variable x with factor 1
abbrev pub is_once : ℕ → Option (ℕ × ℤ) → Bool
is_once x None = false
is_once x (Some t) = x == t.0 && int_eq t.1 (pos 1)

-- the sum has no variable
abbrev pub is_constant : FormValue → Bool
is_constant e = is_none (slice_get e.terms 0)

-- it is the variable x and a constant
abbrev pub is_moved : ℕ → FormValue → Bool
is_moved x e = is_once x (slice_get e.terms 0) && is_none (slice_get e.terms 1)

-- it is the variable x
abbrev pub is_alone : ℕ → FormValue → Bool
is_alone x e = is_moved x e && int_eq e.constant (pos 0)

-- it is the variables x and y, in this order
abbrev pub is_pair : ℕ → ℕ → FormValue → Bool
is_pair x y e = is_once x (slice_get e.terms 0) && (is_once y (slice_get e.terms 1) && (is_none (slice_get e.terms 2) && int_eq e.constant (pos 0)))

-- ---- idioms of assignments with no guard, where x is the one shared variable

-- x := x + 1
abbrev pub one_move : ℕ → Move → Option Idiom
one_move x m = if m.0 == x && is_moved x m.1 then Some idioms.FetchAndAdd else None

-- the second of r := x; x := 1, or of r := x; x := x + 1, or r + 1 there, or of r := x; x := y
abbrev pub second_move : ℕ → ℕ → FormValue → Option Idiom
second_move x r e =
    if is_constant e then Some idioms.TestAndSet
    else if is_moved x e || is_moved r e then Some idioms.FetchAndAdd
    else if is_term x e.terms then None
    else Some idioms.Swap

-- r := 1 - x, and x := 1, is a test as well
abbrev pub two_moves : ℕ → Move → Move → Option Idiom
two_moves x first second =
    if second.0 == x && not (first.0 == x)
    then if is_alone x first.1 then second_move x first.0 second.1
    else if is_term x first.1.terms && is_constant second.1 then Some idioms.TestAndSet
    else None
    else None

-- r := x; x := y; y := r
abbrev pub three_moves : ℕ → Move → Move → Move → Option Idiom
three_moves x first second third =
    if second.0 == x && (is_alone x first.1 && (is_alone third.0 second.1 && is_alone first.0 third.1)) then Some idioms.Swap else None

-- got := a; b := b + a; a := 0, of a value that a variable for each of its values holds
abbrev pub exchange : Move → Move → Move → Option Idiom
exchange first second third =
    if is_alone third.0 first.1 && (is_constant third.1 && (is_pair second.0 third.0 second.1 || is_pair third.0 second.0 second.1)) then Some idioms.CompareAndSwap else None

-- ---- the idiom of a step

-- where these are the shared variables, which it both reads and writes
abbrev pub free_idiom : List ℕ → List Move → Option Idiom
free_idiom (x ∷ []) (a ∷ []) = one_move x a
free_idiom (x ∷ []) (a ∷ b ∷ []) = two_moves x a b
free_idiom (x ∷ []) (a ∷ b ∷ c ∷ []) = three_moves x a b c
free_idiom (x ∷ y ∷ []) (a ∷ b ∷ c ∷ []) = exchange a b c
free_idiom xs ms = None

-- await x = a then x := b
abbrev pub awaited_idiom : FormValue → List ℕ → List Move → Option Idiom
awaited_idiom f (x ∷ []) (m ∷ []) = if is_term x f.terms && (m.0 == x && not (is_term x m.1.terms)) then Some idioms.CompareAndSwap else None
awaited_idiom f xs ms = None

abbrev pub guarded_idiom : Formula → List ℕ → List Move → Option Idiom
guarded_idiom True xs ms = free_idiom xs ms
guarded_idiom False xs ms = None
guarded_idiom (Le f) xs ms = None
guarded_idiom (Eq f) xs ms = awaited_idiom f xs ms
guarded_idiom (Ne f) xs ms = None
guarded_idiom (Not a) xs ms = None
guarded_idiom (And all) xs ms = None
guarded_idiom (Or all) xs ms = None
guarded_idiom (Imp a b) xs ms = None

-- of a step, among whose variables those below n are no auxiliaries
abbrev pub idiom_of : ℕ → List ℕ → Statement → Option Idiom
idiom_of n xs Skip = None
idiom_of n xs (Assign x e) = free_idiom xs (moves_in n (Set x e ∷ []))
idiom_of n xs (If b branch other) = None
idiom_of n xs (While b body) = None
idiom_of n xs (Await b body) = guarded_idiom b xs (moves_in n body)
