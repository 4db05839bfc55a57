-- The promise of a finding.
use Rattle.std.specs.Prelude.{◌≡◌, ⊤, ℕ, zero, suc, ◌+◌, ◌-◌, ◌<◌, ℤ, List, [], ◌∷◌, ◌++◌, length, take, if◌then◌else◌, Option, Some, None, unwrap_or, option_map, slice_get, IfSome}
use Rattle.og_linear.specs.Linear.{value_at}
use Rattle.og_typed.specs.Syntax.{Formula, Simple, Statement, Skip, Assign, If, While, Await, Program}
use Rattle.og_typed.specs.Truth.{truth}
use Rattle.og_typed.specs.Plain.{noted, item_pair, statement}
use Rattle.og_typed.specs.Machine.{Moment, next, run_on, todo, current, start_of, start_state}
use Rattle.og_subst.specs.Actions.{stmt_body, assigns}
use Rattle.og_subst.specs.Large.{first_large}
use Rattle.og_cond.specs.Condition.{Condition}
use Rattle.og_find.specs.Found.{IsFalseAt}
use Rattle.og_report_explain.specs.Explanations.{IsFalseNote}
use Rattle.og_violation.specs.Violations.{IsWrong}
use Rattle.og_violation.specs.declared.violation.Violation.{Violation}
use Rattle.og_violation.specs.declared.violation.Wrong.{Wrong}
use Rattle.og_violation.specs.declared.violation.Wrong.TheVariants as wrongs
use Rattle.og_report_explore.specs.declared.finding.Effect.{Effect}
use Rattle.og_report_explore.specs.declared.finding.Effect.TheVariants as effect
use Rattle.og_report_explore.specs.declared.finding.Row.{Row}
use Rattle.og_report_explore.specs.declared.finding.Fault.{Fault}
use Rattle.og_report_explore.specs.declared.finding.Fault.TheVariants as fault
use Rattle.og_report_explore.specs.declared.finding.Blame.{Blame}
use Rattle.og_report_explore.specs.declared.finding.Finding.{Finding}
use Rattle.og_typed.specs.declared.statement.Item.{Item}
use denote.Ref.{Bor}

-- ---- the steps

-- the test of an `if` or a `while`
abbrev pub branch_test : Statement → Option Formula
branch_test Skip = None
branch_test (Assign x e) = None
branch_test (If b branch other) = Some b
branch_test (While b body) = Some b
branch_test (Await b body) = None

-- what a statement assigns
abbrev pub assignments_of : Statement → List Simple
assignments_of stmt = unwrap_or (stmt_body stmt) []

-- of the first n variables those that are assigned, with their values in a state
abbrev pub assigned_below : ℕ → List Simple → List ℤ → List (ℕ × ℤ)
assigned_below zero body s = []
assigned_below (suc x) body s = assigned_below x body s ++ (if assigns x body then (x, value_at s x) ∷ [] else [])

-- the statement's test was so in the state before; or it has none, and these are the variables that it assigned, with their values after it
abbrev pub IsDid : Program → Statement → List ℤ → List ℤ → Effect → Type 0
IsDid o stmt before after (effect.Tested holds) = (a : Formula) × (branch_test stmt ≡ Some a) × (truth a before ≡ holds)
IsDid o stmt before after (effect.Assigned entries) =
    (branch_test stmt ≡ None) × (entries.items ≡ assigned_below (length o.names) (assignments_of stmt) after)

-- from the moment m process p steps to the moment k; the row has its statement, and what that did
pub record IsRow (o : Program) (m k : Moment) (p : ℕ) (row : Row) : Type 0 where
  pub step : next m p ≡ Some k
  pub process : row.process ≡ p
  pub head : slice_get (todo m p) 0 ≡ Some (item_pair row.item.now)
  pub effect : IsDid o (statement row.item.now.stmt) m.state k.state row.effect

-- a row for each step of the history, from the moment m to the moment k
abbrev pub AreRows : Program → Moment → List ℕ → List Row → Moment → Type 0
AreRows o m [] [] k = m ≡ k
AreRows o m [] (row ∷ rows) k = ⊥
AreRows o m (p ∷ ps) [] k = ⊥
AreRows o m (p ∷ ps) (row ∷ rows) k = (n : Moment) × IsRow o m n p row × AreRows o n ps rows k

-- the same from the start with these values
abbrev pub AreRowsOf : Program → List ℤ → List ℕ → List Row → Type 0
AreRowsOf o values history rows = (k : Moment) × AreRows o (start_of o values) history rows k

-- the state before the last step of the history, from the moment m; without a step its own
abbrev pub IsBefore : Moment → List ℕ → List ℤ → Type 0
IsBefore m history s = (k : Moment) × (run_on (take (length history - 1) history) (Some m) ≡ Some k) × (s ≡ k.state)

-- ---- the violation

-- process p has this statement to do next; none where it has ended
abbrev pub StandsAt : Moment → ℕ → Option (Bor Item) → Type 0
StandsAt m p stand = option_map (λ item. item_pair item.now) stand ≡ slice_get (todo m p) 0

-- of the processes from p on
abbrev pub AreStands : Moment → ℕ → List (Option (Bor Item)) → Type 0
AreStands m p [] = ⊤
AreStands m p (stand ∷ stands) = StandsAt m p stand × AreStands m (p + 1) stands

-- the report of the violation is right at the moment: the process, its assertion and which conjuncts of it are false; its statement and the value that is too large; the postcondition; where each process stands
abbrev pub IsFault : Program → Moment → Wrong → Fault → Type 0
IsFault o m (wrongs.Assertion p) (fault.Assertion q note found) =
    (q ≡ p) × ((noted note.now).assertion ≡ current o m p) × IsFalseNote m.state (noted note.now) found
IsFault o m (wrongs.Overflow p) (fault.Overflow q item x v) =
    (q ≡ p) × (slice_get (todo m p) 0 ≡ Some (item_pair item.now)) × (first_large (assignments_of (statement item.now.stmt)) m.state ≡ Some (x, v))
IsFault o m wrongs.Post (fault.Post note found) = (noted note.now ≡ o.post) × IsFalseNote m.state (noted note.now) found
IsFault o m wrongs.Stuck (fault.Stuck stands) = (length stands.items ≡ length o.processes) × AreStands m 0 stands.items
IsFault o m _ _ = ⊥

-- ---- the condition

-- the condition with this number, kind and action is false in the state before the last step, or in the last one
abbrev pub IsBlame : List Condition → List ℤ → List ℤ → Blame → Type 0
IsBlame cs before last b =
    (0 < b.number)
    × ((c : Condition) × (slice_get cs (b.number - 1) ≡ Some c) × (c.kind ≡ b.kind) × (c.action_at ≡ b.action_at)
    × IsFalseAt c (if b.before then before else last))

-- ---- all of it

-- the run is the violation's, from its start to a moment where the report is right
pub record IsFinding (o : Program) (cs : List Condition) (v : Violation) (f : Finding) : Type 0 where
  pub wrong : IsWrong o v.values v.history.items v.wrong
  pub last : Moment
  pub start : f.start ≡ start_state o v.values
  pub rows : AreRows o (start_of o v.values) v.history.items f.rows.items last
  pub state : f.state ≡ last.state
  pub is : IsFault o last v.wrong f.fault
  pub before : List ℤ
  pub is_before : IsBefore (start_of o v.values) v.history.items before
  pub blame : IfSome f.blame (IsBlame cs before last.state)
