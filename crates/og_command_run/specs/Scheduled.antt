-- What `run` answers that makes the steps of a schedule.
use Rattle.std.specs.Prelude.{◌≡◌, ℕ, ℤ, Bool, true, List, length, Option, None, IfSome, ◌⊎◌}
use Rattle.og_typed.specs.Syntax.{Program}
use Rattle.og_step.specs.Starts.{start_fault}
use Rattle.og_typed.specs.Sites.{StatementSite, all_statements}
use Rattle.og_typed.specs.Seen.{IsOneOf}
use Rattle.og_run.specs.Runs.{Given}
use Rattle.og_command_run.specs.Schedules.{IsSchedule, number_of, history_of, IsFirstHindered}
use Rattle.og_command_run.specs.Asked.{is_of}
use Rattle.og_command_run.specs.Lines.{not_made_line}
use Rattle.og_command_run.specs.Running.{given, program_of, StartsNot, IsQuiet, EndsAsked, IsEarly, Goes}
use Rattle.og_command_run.specs.declared.hindrance.Hindrance.{Hindrance}
use Rattle.og_command_run.specs.declared.reply.Ran.{Ran}
use Rattle.og_command_run.specs.declared.reply.Reply.{Reply}
use Rattle.og_command_run.specs.declared.reply.Reply.TheVariants as replies

-- a statement of process p stands there
pub record IsStatementPlace (o : Program) (p : ℕ) (at : ℕ) : Type 0 where
  pub site : StatementSite
  pub one : IsOneOf (all_statements o) site
  pub there : site.piece.at ≡ at
  pub its : is_of (length o.processes) p site.part ≡ true

-- the run whose history is exactly these steps, or why there is none
abbrev pub IsAnswerOfSteps : List ℕ → Given → List ℕ → Ran → Type 0
IsAnswerOfSteps source g steps r = IsQuiet (StartsNot g) r ⊎ EndsAsked (λ outcome. outcome.history.items ≡ history_of g.outline steps) source g r

-- the line of a step that cannot be made
pub record SaysHindrance (source : List ℕ) (o : Program) (made process : ℕ) (why : Hindrance) (line : List ℕ) : Type 0 where
  pub place : Option ℕ
  pub there : IfSome place (IsStatementPlace o (number_of o process))
  pub answered : line ≡ not_made_line source made process why place

-- of the first that cannot
pub record SaysNotMade (source : List ℕ) (g : Given) (steps : List ℕ) (line : List ℕ) : Type 0 where
  pub begins : start_fault g.outline g.values ≡ None
  pub made : ℕ
  pub process : ℕ
  pub why : Hindrance
  pub first : IsFirstHindered g steps made process why
  pub answered : SaysHindrance source g.outline made process why line

-- what comes of these steps
abbrev pub IsStepped : List ℕ → Given → List ℕ → Reply → Type 0
IsStepped source g steps (replies.Ran ran) = IsAnswerOfSteps source g steps ran
IsStepped source g steps (replies.BadValue bad) = ⊥
IsStepped source g steps (replies.NotMade line) = SaysNotMade source g steps line.items

-- of a word that is a list of steps: that run, or that line; else the word is reported
abbrev pub Follows : List ℕ → List ℕ → Program → List ℤ → Reply → Type 0
Follows source word o values (replies.Ran ran) = (steps : List ℕ) × IsSchedule word steps × IsAnswerOfSteps source (given o values (length steps)) steps ran
Follows source word o values (replies.BadValue bad) = (bad.now ≡ word) × ((steps : List ℕ) → IsSchedule word steps → ⊥)
Follows source word o values (replies.NotMade line) =
    (steps : List ℕ) × IsSchedule word steps × SaysNotMade source (given o values (length steps)) steps line.items

-- what comes of a schedule of an outline in this text, with its auxiliaries or without them
abbrev pub IsScheduled : Bool → Program → List ℕ → List (List ℕ) → List ℕ → Reply → Type 0
IsScheduled without_auxiliaries o source words schedule r =
    IsEarly o words r ⊎ Goes (Follows source schedule (program_of without_auxiliaries o)) o words r
