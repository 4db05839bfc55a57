-- Where the finding on a condition belongs in the outline.
use Rattle.std.specs.Prelude.{◌≡◌, ◌⊎◌, ℕ, List, [], ◌∷◌, Option, Some, IfSome, ⊤}
use Rattle.og_typed.specs.Syntax.{Noted, Program}
use Rattle.og_cond.specs.Condition.{Condition}
use Rattle.og_report_explain.specs.Explained.{IsNoteOf}
use Rattle.og_typed.specs.Seen.{IsOneOf}
use Rattle.og_typed.specs.Sites.{NoteSite, StatementSite, all_notes, all_statements}
use Rattle.og_typed.specs.declared.sites.Part.TheVariants as parts
use Rattle.og_report_html.specs.declared.target.Target.{Target}
use Rattle.og_report_html.specs.declared.target.Interference.{Interference}

-- an assertion of the outline stands there
abbrev pub IsNotePlace : Program → ℕ → Type 0
IsNotePlace o at = (note : Noted) × IsNoteOf o note × (at ≡ note.at)

-- or it is the condition's own place
abbrev pub IsGoalPlace : Program → Condition → ℕ → Type 0
IsGoalPlace o c at = IsNotePlace o at ⊎ (at ≡ c.at)

-- a statement of this process stands there
abbrev pub IsStepOf : Program → ℕ → Option ℕ → Type 0
IsStepOf o p at = (site : StatementSite) × IsOneOf (all_statements o) site × (site.part ≡ parts.Process p) × (at ≡ Some site.piece.at)

-- an assertion of this process
abbrev pub IsAssertionOf : Program → ℕ → ℕ → Type 0
IsAssertionOf o p at = (site : NoteSite) × IsOneOf (all_notes o) site × (site.part ≡ parts.Process p) × (at ≡ site.note.at)

-- whose step the condition speaks of, and whose assertion
abbrev pub IsInterference : Program → Condition → Interference → Type 0
IsInterference o c i = IsStepOf o i.actor c.action_at × IsAssertionOf o i.other c.at

abbrev pub IsTarget : Program → Condition → Target → Type 0
IsTarget o c g = IsGoalPlace o c g.goal × IfSome g.interference (IsInterference o c)

-- of each condition, one for one
abbrev pub AreTargets : Program → List Condition → List Target → Type 0
AreTargets o [] [] = ⊤
AreTargets o [] (g ∷ gs) = ⊥
AreTargets o (c ∷ cs) [] = ⊥
AreTargets o (c ∷ cs) (g ∷ gs) = IsTarget o c g × AreTargets o cs gs
