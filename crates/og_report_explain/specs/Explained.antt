-- What explains that a condition is false in a state.
use Rattle.std.specs.Prelude.{◌≡◌, ◌⊎◌, ◌+◌, ℕ, ℤ, List, [], ◌∷◌, Bool, true, false, if◌then◌else◌, Option, Some, None, ⊤}
use Rattle.og_linear.specs.Linear.{value_at}
use Rattle.og_typed.specs.Syntax.{Formula, Noted, Statement, If, While, Await, Program}
use Rattle.og_typed.specs.Truth.{truth}
use Rattle.og_subst.specs.Trees.{ActionTree}
use Rattle.og_subst.specs.Actions.{stmt_action}
use Rattle.og_cond.specs.Condition.{Condition}
use Rattle.og_typed.specs.Seen.{IsOneOf}
use Rattle.og_typed.specs.Sites.{NoteSite, StatementSite, all_notes, all_statements}
use Rattle.og_report_text.specs.Conjuncts.{conjuncts}

-- ---- what stands in an outline

-- an assertion of the outline at its place
abbrev pub IsNoteOf : Program → Noted → Type 0
IsNoteOf o note = (note ≡ o.pre) ⊎ (note ≡ o.post) ⊎ ((site : NoteSite) × IsOneOf (all_notes o) site × (site.note ≡ note))

-- the test of an `if` or a `while`, or the guard of an `await`
abbrev pub test_of : Statement → Option Formula
test_of (If b branch other) = Some b
test_of (While b body) = Some b
test_of (Await b body) = Some b
test_of _ = None

-- ---- the conjuncts true in a state

-- an assertion of the outline that is true
abbrev pub IsTrueNote : Program → List ℤ → Noted → Type 0
IsTrueNote o s note = IsNoteOf o note × (truth note.assertion s ≡ true)

-- a statement of the outline whose test or guard has this truth
abbrev pub IsTested : Program → List ℤ → Bool → StatementSite → Type 0
IsTested o s holds site =
    IsOneOf (all_statements o) site × ((b : Formula) × (test_of site.piece.stmt ≡ Some b) × (truth b s ≡ holds))

-- a statement of the outline that is this action
abbrev pub IsOneAction : Program → ActionTree → StatementSite → Type 0
IsOneAction o tree site = IsOneOf (all_statements o) site × (stmt_action site.piece.stmt ≡ Some tree)

-- a statement of the outline that is the condition's action
abbrev pub IsAction : Program → Condition → StatementSite → Type 0
IsAction o c site = IsOneOf (all_statements o) site × (stmt_action site.piece.stmt ≡ c.action)

-- the auxiliaries, from variable x on, have these values
abbrev pub HaveValues : List ℤ → ℕ → List ℤ → Type 0
HaveValues s x [] = ⊤
HaveValues s x (v ∷ vs) = (value_at s x ≡ v) × HaveValues s (x + 1) vs

-- the false ones among these assertions
abbrev pub false_ones : List ℤ → List Formula → List Formula
false_ones s [] = []
false_ones s (a ∷ rest) = if truth a s then false_ones s rest else a ∷ false_ones s rest

-- and among the conjuncts of an assertion
abbrev pub false_conjuncts : List ℤ → Formula → List Formula
false_conjuncts s a = false_ones s (conjuncts a)

-- a process waits: the assertion before an await is true, and its guard is false
abbrev pub IsWaiting : Program → List ℤ → StatementSite → Type 0
IsWaiting o s site = IsTested o s false site × (truth site.piece.before.assertion s ≡ true)

-- an assertion of a process that is true
abbrev pub IsTrueSite : Program → List ℤ → NoteSite → Type 0
IsTrueSite o s site = IsOneOf (all_notes o) site × (truth site.note.assertion s ≡ true)
