-- What an outline may claim of no run: assertions, and tests behind them, that are never true together.
use Rattle.std.specs.Prelude.{◌≡◌, ℕ, ℤ, List, [], ◌∷◌, ◌++◌, map, flat_map, Bool, true, false, Option, Some, None}
use Rattle.std.specs.List.{AllByRecursion}
use Rattle.og_linear.specs.Linear.{IsProper}
use Rattle.og_typed.specs.Syntax.{Formula, True, False, Le, Eq, Ne, Not, And, Or, Imp, Noted, Statement, Skip, Assign, If, While, Await, Otherwise, Nothing, Else, Program, last_of}
use Rattle.og_cond.specs.Condition.{Part, Yes, No}
use Rattle.og_cond.specs.Valid.{all_parts}
use Rattle.og_review_text.specs.Points.{Point, points}
use Rattle.og_command_notes.specs.declared.claims.Asked.{Asked}
use Rattle.og_command_notes.specs.declared.claims.Asked.TheVariants as asked

-- in no state of i64 values are all of them true
abbrev pub AreNeverTrue : List Part → Type 0
AreNeverTrue parts = (s : List ℤ) → IsProper s → all_parts s parts ≡ false

-- what is asked, of the part of the outline at which place, and which facts may never be true together
pub record Question : Type 0 where
  pub asked : Asked
  pub at : ℕ
  pub facts : List Part

-- ---- all of them

-- an assertion that is not written as `false`, and one that is
abbrev pub asked_of : Formula → Asked
asked_of True = asked.Assertion
asked_of False = asked.Falsity
asked_of (Le f) = asked.Assertion
asked_of (Eq f) = asked.Assertion
asked_of (Ne f) = asked.Assertion
asked_of (Not a) = asked.Assertion
asked_of (And all) = asked.Assertion
asked_of (Or all) = asked.Assertion
asked_of (Imp a b) = asked.Assertion

-- an assertion alone, and an assertion with a test
abbrev pub alone : Asked → Noted → Question
alone what note = record { asked = what; at = note.at; facts = Yes note.assertion ∷ [] }

abbrev pub with_test : Asked → ℕ → Formula → Part → Question
with_test what at before test = record { asked = what; at = at; facts = Yes before ∷ test ∷ [] }

-- whether the else branch is taken, where there is one
abbrev pub else_questions : ℕ → Formula → Formula → Otherwise → List Question
else_questions at before b Nothing = []
else_questions at before b (Else branch) = with_test asked.ElseTaken at before (No b) ∷ []

-- of a statement with the assertion before it: whether its branches are taken, its loop is entered and left, its await passes
abbrev pub statement_questions : Formula → Statement → ℕ → List Question
statement_questions before Skip at = []
statement_questions before (Assign x e) at = []
statement_questions before (If b branch other) at = with_test asked.BranchTaken at before (Yes b) ∷ else_questions at before b other
statement_questions before (While b body) at = with_test asked.LoopEntered at before (Yes b) ∷ with_test asked.LoopLeft at before (No b) ∷ []
statement_questions before (Await b body) at = with_test asked.AwaitPassed at before (Yes b) ∷ []

abbrev pub next_questions : Formula → Option (Statement × ℕ) → List Question
next_questions before None = []
next_questions before (Some next) = statement_questions before next.0 next.1

-- whether an assertion is ever true, and those of the statement behind it
abbrev pub point_questions : Point → List Question
point_questions p = alone (asked_of p.note.assertion) p.note ∷ next_questions p.note.assertion p.next

-- whether the processes ever all end: their last assertions
abbrev pub end_question : Program → Question
end_question o = record { asked = asked.AllEnded; at = o.cobegin_at; facts = map (λ q. Yes (last_of q).assertion) o.processes }

-- whether the postcondition is ever true, and whether it is ever false
abbrev pub postcondition_questions : Program → List Question
postcondition_questions o =
    alone asked.Postcondition o.post ∷ record { asked = asked.PostconditionFalse; at = o.post.at; facts = No o.post.assertion ∷ [] } ∷ []

-- in the order of their places
abbrev pub questions : Program → List Question
questions o = alone asked.Precondition o.pre ∷ (flat_map point_questions (points o) ++ (end_question o ∷ postcondition_questions o))

-- ---- the findings

-- a question, and whether it was found that its facts are never true together
pub record Claim : Type 0 where
  pub question : Question
  pub refuted : Bool

abbrev pub question_of : Claim → Question
question_of c = c.question

-- what was found of it is so
abbrev pub IsFound : Claim → Type 0
IsFound c = c.refuted ≡ true → AreNeverTrue c.question.facts

-- they are about the questions of the outline, and what was found of each is so
pub record AreClaims (o : Program) (claims : List Claim) : Type 0 where
  pub all : map question_of claims ≡ questions o
  pub found : AllByRecursion IsFound claims
