-- What every outline meets: the rule for auxiliary variables, and the limits.
use Rattle.std.specs.Prelude.{◌≡◌, ℕ, ◌≤◌, ◌<◌, ◌+◌, length, Bool, true, false, ◌&&◌, nat_lt, nat_le, ⊤, IfSome}
use Rattle.std.specs.List.{list_all, AllByRecursion}
use Rattle.og_linear.specs.Linear.{FormValue, is_term, IsProper, is_small}
use Rattle.og_typed.specs.Syntax.{Formula, Simple, Pass, Set, Statement, Skip, Assign, If, While, Await, Otherwise, Nothing, Else, Sequence, Last, Then, Program}
use Rattle.og_typed.specs.Pieces.{pieces}
use Rattle.og_typed.specs.Forms.{each_form}
use Rattle.og_typed.specs.Occurs.{occurs}

-- ---- auxiliaries: the variables from number n on

-- no auxiliary occurs
abbrev pub IsPlain : ℕ → Formula → Type 0
IsPlain n a = (x : ℕ) → n ≤ x → occurs x a ≡ false

abbrev pub IsPlainForm : ℕ → FormValue → Type 0
IsPlainForm n f = (x : ℕ) → n ≤ x → is_term x f.terms ≡ false

abbrev pub SimpleFollows : ℕ → Simple → Type 0
SimpleFollows n Pass = ⊤
SimpleFollows n (Set x e) = nat_lt x n ≡ true → IsPlainForm n e

-- an auxiliary occurs only in assignments to auxiliaries
abbrev pub StatementFollows : ℕ → Statement → Type 0
StatementFollows n Skip = ⊤
StatementFollows n (Assign x e) = nat_le n x ≡ false → IsPlainForm n e
StatementFollows n (If b branch other) = IsPlain n b
StatementFollows n (While b body) = IsPlain n b
StatementFollows n (Await b body) = IsPlain n b × AllByRecursion (SimpleFollows n) body

abbrev pub SequenceFollows : ℕ → Sequence → Type 0
SequenceFollows n q = AllByRecursion (λ piece. StatementFollows n piece.stmt) (pieces q)

-- ---- every variable is one of the first n, and every form is small

abbrev pub is_usable_form : ℕ → FormValue → Bool
is_usable_form n f = is_small f && list_all (λ t. nat_lt t.0 n) f.terms

abbrev pub IsUsable : ℕ → Formula → Type 0
IsUsable n a = each_form (is_usable_form n) a ≡ true

abbrev pub IsUsableSimple : ℕ → Simple → Type 0
IsUsableSimple n Pass = ⊤
IsUsableSimple n (Set x e) = (x < n) × (is_usable_form n e ≡ true)

abbrev mutual
  pub IsUsableSequence : ℕ → Sequence → Type 0
  IsUsableSequence n (Last note) = IsUsable n note.assertion
  IsUsableSequence n (Then before stmt at rest) = IsUsable n before.assertion × IsUsableStatement n stmt × IsUsableSequence n rest

  pub IsUsableStatement : ℕ → Statement → Type 0
  IsUsableStatement n Skip = ⊤
  IsUsableStatement n (Assign x e) = (x < n) × (is_usable_form n e ≡ true)
  IsUsableStatement n (If b branch other) = IsUsable n b × IsUsableSequence n branch × IsUsableOtherwise n other
  IsUsableStatement n (While b body) = IsUsable n b × IsUsableSequence n body
  IsUsableStatement n (Await b body) = IsUsable n b × AllByRecursion (IsUsableSimple n) body

  pub IsUsableOtherwise : ℕ → Otherwise → Type 0
  IsUsableOtherwise n Nothing = ⊤
  IsUsableOtherwise n (Else branch) = IsUsableSequence n branch

-- what every outline meets: the rule for auxiliaries, and initial values that are i64
pub record IsOutline (o : Program) : Type 0 where
  pub pre_plain : IsPlain o.vars o.pre.assertion
  pub post_plain : IsPlain o.vars o.post.assertion
  pub prologue_follows : IfSome o.prologue (SequenceFollows o.vars)
  pub follows : AllByRecursion (SequenceFollows o.vars) o.processes
  pub epilogue_follows : IfSome o.epilogue (SequenceFollows o.vars)
  pub aux_proper : IsProper o.aux_values
  -- and the limits: names for all, at most 256 of them, no other used, and small forms
  pub named : length o.names ≡ o.vars + length o.aux_values
  pub few : length o.names ≤ 256
  pub some_process : 0 < length o.processes
  pub few_processes : length o.processes ≤ 256
  pub pre_usable : IsUsable (length o.names) o.pre.assertion
  pub prologue_usable : IfSome o.prologue (IsUsableSequence (length o.names))
  pub usable : AllByRecursion (IsUsableSequence (length o.names)) o.processes
  pub epilogue_usable : IfSome o.epilogue (IsUsableSequence (length o.names))
  pub post_usable : IsUsable (length o.names) o.post.assertion
