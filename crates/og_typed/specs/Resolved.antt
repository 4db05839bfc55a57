-- The outline that a tree with names stands for, or its first fault in the order of the text.
use Rattle.std.specs.Prelude.{ℕ, ◌+◌, ℤ, pos, negsuc, neg_ℤ, List, [], ◌∷◌, ◌++◌, length, if◌then◌else◌, nat_lt, Option, Some, None, position, Result, Ok, Err}
use Rattle.std.specs.Str.{bytes_eq}
use Rattle.og_parse.specs.Language.{Placed}
use Rattle.og_parse.specs.declared.raw.Sign.{Sign}
use Rattle.og_parse.specs.declared.raw.Sign.TheVariants.{Plus, Minus}
use Rattle.og_parse.specs.declared.raw.RawName.{RawName}
use Rattle.og_parse.specs.declared.raw.RawInt.{RawInt}
use Rattle.og_parse.specs.declared.raw.RawAux.{RawAux}
use Rattle.og_parse.specs.declared.raw.RawTerm.{RawTerm}
use Rattle.og_parse.specs.declared.raw.RawFactor.{RawFactor}
use Rattle.og_parse.specs.declared.raw.RawFactor.TheVariants as factors
use Rattle.og_parse.specs.declared.raw.Relation.{Relation}
use Rattle.og_parse.specs.declared.raw.Relation.TheVariants as relations
use Rattle.og_parse.specs.Trees as tree
use Rattle.og_linear.specs.Linear.{FormValue, form_value, fits_i64, is_small}
use Rattle.og_linear.specs.Arith.{scaled, plus, variable}
use Rattle.og_typed.specs.declared.fault.TypeFault.{TypeFault}
use Rattle.og_typed.specs.declared.fault.TypeFault.TheVariants as faults
use Rattle.og_typed.specs.Syntax.{Formula, True, False, Le, Eq, Ne, Not, And, Or, Imp, Formulas, none, more, Noted, Simple, Pass, Set, Statement, Skip, Assign, If, While, Await, Nothing, Else, Sequence, Last, Then, Program}
use Rattle.og_typed.specs.Forms.{each_form}

-- ---- answers: a value, or the first fault

abbrev pub Checked : Type 0 → Type 0
Checked X = Result X TypeFault

infixl 10 ◌>>=◌
abbrev pub ◌>>=◌ : {A B : Type 0} → Checked A → (A → Checked B) → Checked B
(Ok x) >>= next = next x
(Err fault) >>= next = Err fault

-- each in turn, where this many stand before; the fault of the one that is beyond the limit
abbrev pub counted : {X Y : Type 0} → ℕ → (X → TypeFault) → (X → Checked Y) → ℕ → List X → Checked (List Y)
counted limit fault each before [] = Ok []
counted limit fault each before (x ∷ xs) =
    if nat_lt before limit then (each x >>= λ y. counted limit fault each (before + 1) xs >>= λ ys. Ok (y ∷ ys)) else Err (fault x)

-- ---- declarations

-- the number of a name
abbrev pub number_in : List (List ℕ) → List ℕ → Option ℕ
number_in names name = position (bytes_eq name) names

-- the names with one more, which has no number yet
abbrev pub declared_as : Option ℕ → List (List ℕ) → RawName → Checked (List (List ℕ))
declared_as (Some x) names name = Err (faults.DeclaredTwice name.span.start)
declared_as None names name =
    if nat_lt (length names) 256 then Ok (names ++ name.name ∷ []) else Err (faults.TooManyVariables name.span.start)

abbrev pub declared : List (List ℕ) → RawName → Checked (List (List ℕ))
declared names name = declared_as (number_in names name.name) names name

abbrev pub declared_vars : List (List ℕ) → List RawName → Checked (List (List ℕ))
declared_vars names [] = Ok names
declared_vars names (name ∷ others) = do
  longer ← declared names name
  declared_vars longer others

abbrev pub signed : Sign → ℤ → ℤ
signed Plus z = z
signed Minus z = neg_ℤ z

-- an initial value, which is an i64
abbrev pub initial : RawInt → Checked ℤ
initial int =
    if fits_i64 (signed int.sign (pos int.number)) then Ok (signed int.sign (pos int.number))
    else Err (faults.CoefficientTooLarge int.span.start)

-- names, and the initial values of those that are auxiliaries
abbrev pub declared_auxes : List (List ℕ) → List ℤ → List RawAux → Checked (List (List ℕ) × List ℤ)
declared_auxes names values [] = Ok (names, values)
declared_auxes names values (aux ∷ others) = do
  longer ← declared names aux.name
  value ← initial aux.value
  declared_auxes longer (values ++ value ∷ []) others

-- ---- used names

-- the variables by name, the auxiliaries last; and how many are no auxiliaries
pub record Scope : Type 0 where
  pub names : List (List ℕ)
  pub vars : ℕ

-- where an auxiliary may not stand: in the precondition and postcondition; in a test, a guard and the right side of an
-- assignment to a variable that is none; or it may stand
pub data Use : Type 0 where
  Outer : Use
  Visible : Use
  Free : Use

abbrev pub aux_number : Use → ℕ → ℕ → Checked ℕ
aux_number Outer x at = Err (faults.AuxInPrePost at)
aux_number Visible x at = Err (faults.AuxUsed at)
aux_number Free x at = Ok x

abbrev pub number_as : Option ℕ → Scope → Use → ℕ → Checked ℕ
number_as None scope use_of at = Err (faults.Undeclared at)
number_as (Some x) scope use_of at = if nat_lt x scope.vars then Ok x else aux_number use_of x at

-- the number of a name that is used
abbrev pub number : Scope → Use → RawName → Checked ℕ
number scope use_of name = number_as (number_in scope.names name.name) scope use_of name.span.start

-- ---- sums and relations

-- a number, and what it counts: 1 or a variable
abbrev pub factor : Scope → Use → RawFactor → Checked (ℕ × FormValue)
factor scope use_of (factors.Number n) = Ok (n, form_value [] (pos 1))
factor scope use_of (factors.Variable name) = number scope use_of name >>= λ x. Ok (1, variable x)
factor scope use_of (factors.Product n name) = number scope use_of name >>= λ x. Ok (n, variable x)

-- the form so far, with the terms added from left to right
abbrev pub sum_from : Scope → Use → FormValue → List RawTerm → Checked FormValue
sum_from scope use_of total [] = Ok total
sum_from scope use_of total (term ∷ terms) = do
  f ← factor scope use_of term.factor
  sum_from scope use_of (plus total (scaled (signed term.sign (pos f.0)) f.1)) terms

-- the collected form of a sum
abbrev pub sum_form : Scope → Use → tree.Sum → Checked FormValue
sum_form scope use_of sum = sum_from scope use_of (form_value [] (pos 0)) sum.value

abbrev pub minus : FormValue → FormValue → FormValue
minus f g = plus f (scaled (negsuc 0) g)

abbrev pub plus_one : FormValue → FormValue
plus_one f = plus f (form_value [] (pos 1))

-- two sums compared, as one form that is compared with 0
abbrev pub compared : Relation → FormValue → FormValue → Formula
compared relations.LessEqual left right = Le (minus left right)
compared relations.Less left right = Le (plus_one (minus left right))
compared relations.GreaterEqual left right = Le (minus right left)
compared relations.Greater left right = Le (plus_one (minus right left))
compared relations.Equal left right = Eq (minus left right)
compared relations.NotEqual left right = Ne (minus left right)

-- an assertion whose forms are small, or the fault at this place
abbrev pub small_at : ℕ → Formula → Checked Formula
small_at at a = if each_form is_small a then Ok a else Err (faults.CoefficientTooLarge at)

abbrev pub comparison : Scope → Use → tree.Sum → Relation → tree.Sum → Checked Formula
comparison scope use_of left relation right = do
  f ← sum_form scope use_of left
  g ← sum_form scope use_of right
  small_at left.place.start (compared relation f g)

-- ---- assertions

abbrev mutual
  pub assertion : Scope → Use → tree.Assertion → Checked Formula
  assertion scope use_of tree.Truth = Ok True
  assertion scope use_of tree.Falsity = Ok False
  assertion scope use_of (tree.Comparison left relation right) = comparison scope use_of left relation right
  assertion scope use_of (tree.Negation a) = assertion scope use_of a >>= λ b. Ok (Not b)
  assertion scope use_of (tree.Conjunction all) = assertions scope use_of all >>= λ bs. Ok (And bs)
  assertion scope use_of (tree.Disjunction all) = assertions scope use_of all >>= λ bs. Ok (Or bs)
  assertion scope use_of (tree.Implication a b) = assertion scope use_of a >>= λ c. assertion scope use_of b >>= λ d. Ok (Imp c d)

  pub assertions : Scope → Use → tree.Assertions → Checked Formulas
  assertions scope use_of tree.none = Ok none
  assertions scope use_of (tree.more a others) = assertion scope use_of a >>= λ b. assertions scope use_of others >>= λ bs. Ok (more b bs)

abbrev pub note : Scope → Use → tree.Note → Checked Noted
note scope use_of n = assertion scope use_of n.value >>= λ a. Ok (record { assertion = a; at = n.place.start })

-- ---- statements

-- the right side of an assignment to x
abbrev pub right_side : Scope → ℕ → tree.Sum → Checked FormValue
right_side scope x sum = do
  form ← sum_form scope (if nat_lt x scope.vars then Visible else Free) sum
  if is_small form then Ok form else Err (faults.CoefficientTooLarge sum.place.start)

abbrev pub simple : Scope → tree.Basic → Checked Simple
simple scope tree.Skip = Ok Pass
simple scope (tree.Assign name sum) = number scope Free name >>= λ x. right_side scope x sum >>= λ form. Ok (Set x form)

-- the elements of an await: at most 64
abbrev pub elements : Scope → List (Placed tree.Basic) → Checked (List Simple)
elements scope = counted 64 (λ element. faults.AwaitTooLong element.place.start) (λ element. simple scope element.value) 0

abbrev pub statement_of : Simple → Statement
statement_of Pass = Skip
statement_of (Set x form) = Assign x form

abbrev mutual
  pub statement : Scope → tree.Stmt → Checked Statement
  statement scope (tree.Simple basic) = simple scope basic >>= λ s. Ok (statement_of s)
  statement scope (tree.If test branch) = assertion scope Visible test >>= λ b. sequence scope branch >>= λ q. Ok (If b q Nothing)
  statement scope (tree.IfElse test branch other) =
      assertion scope Visible test >>= λ b. sequence scope branch >>= λ q. sequence scope other >>= λ r. Ok (If b q (Else r))
  statement scope (tree.While test body) = assertion scope Visible test >>= λ b. sequence scope body >>= λ q. Ok (While b q)
  statement scope (tree.Await guard body) = assertion scope Visible guard >>= λ b. elements scope body >>= λ all. Ok (Await b all)

  pub sequence : Scope → tree.Seq → Checked Sequence
  sequence scope (tree.item before place stmt rest) =
      note scope Free before >>= λ b. statement scope stmt >>= λ s. sequence scope rest >>= λ q. Ok (Then b s place.start q)
  sequence scope (tree.finish last) = note scope Free last >>= λ b. Ok (Last b)

-- ---- outlines

abbrev pub part : Scope → Option tree.Seq → Checked (Option Sequence)
part scope None = Ok None
part scope (Some seq) = sequence scope seq >>= λ q. Ok (Some q)

-- the place of a process is that of its first assertion
abbrev pub place_of : tree.Seq → ℕ
place_of (tree.item before place stmt rest) = before.place.start
place_of (tree.finish last) = last.place.start

-- the processes: at most 256
abbrev pub processes : Scope → List tree.Seq → Checked (List Sequence)
processes scope = counted 256 (λ seq. faults.TooManyProcesses (place_of seq)) (sequence scope) 0

abbrev pub outline_in : Scope → List ℤ → tree.Outline → Checked Program
outline_in scope values outline = do
  pre ← note scope Outer outline.pre
  prologue ← part scope outline.prologue
  all ← processes scope outline.processes
  epilogue ← part scope outline.epilogue
  post ← note scope Outer outline.post
  Ok (record { names = scope.names; vars = scope.vars; aux_values = values; pre = pre; prologue = prologue; processes = all; epilogue = epilogue; post = post; cobegin_at = outline.cobegin.start })

-- the outline of a tree
abbrev pub resolved : tree.Outline → Checked Program
resolved outline = do
  vars ← declared_vars [] outline.vars
  auxes ← declared_auxes vars [] outline.auxes
  outline_in (record { names = auxes.0; vars = length vars }) auxes.1 outline
