-- The promise of an explanation.
use Rattle.std.specs.Prelude.{◌≡◌, ◌<◌, ℤ, List, Some, true, length, IfSome, Vec, ⊤}
use Rattle.std.specs.List.{All}
use Rattle.std.specs.Global.{Global}
use Rattle.og_typed.specs.Syntax.{Noted, Program}
use Rattle.og_typed.specs.Plain.{noted}
use Rattle.og_typed.specs.declared.assertion.Assert.{Assert}
use Rattle.og_typed.specs.Machine.{act}
use Rattle.og_cond.specs.Condition.{Condition, assignments}
use Rattle.og_typed.specs.Seen.{statement_of}
use Rattle.og_subst.specs.Large.{first_large}
use Rattle.og_report_text.specs.Seen.{formulas_of}
use Rattle.og_report_explain.specs.declared.explanation.Explanation.{Explanation}
use Rattle.og_report_explain.specs.declared.explanation.Fault.{Fault}
use Rattle.og_report_explain.specs.declared.explanation.Fault.TheVariants as fault
use Rattle.og_report_explain.specs.declared.explanation.Test.{Test}
use Rattle.og_report_explain.specs.Explained.{IsNoteOf, IsTrueNote, IsTested, IsAction, HaveValues, false_conjuncts}
use Rattle.og_report_explain.specs.Stands.{IsStand, AreStands}
use denote.Ref.{Bor}

-- a statement of the outline whose test has the reported truth
abbrev pub TestIs : Program → List ℤ → Test → Type 0
TestIs o s test = IsTested o s test.holds (statement_of test.site)

-- the false conjuncts of an assertion, of which there are some
abbrev pub IsFalseNote : List ℤ → Noted → Vec (Bor Assert) Global → Type 0
IsFalseNote s note found = (formulas_of found.items ≡ false_conjuncts s note.assertion) × (0 < length found.items)

-- the first value that the condition's action assigns and that is no i64
abbrev pub IsTooLarge : Condition → List ℤ → Fault → Type 0
IsTooLarge c s (fault.False note found) = ⊥
IsTooLarge c s (fault.TooLarge x v) = first_large (assignments c.action) s ≡ Some (x, v)
IsTooLarge c s (fault.Blocked stands) = ⊥

-- an assertion of the outline that is false after the action, a value that is too large, or where processes stand
abbrev pub IsFault : Program → Condition → List ℤ → List ℤ → Fault → Type 0
IsFault o c s after (fault.False note found) = IsNoteOf o (noted note.now) × IsFalseNote after (noted note.now) found
IsFault o c s after (fault.TooLarge x v) = first_large (assignments c.action) s ≡ Some (x, v)
IsFault o c s after (fault.Blocked stands) = AreStands o s stands.items

-- where it says where processes stand, the assertion at each place is true
abbrev pub AreAllowed : Program → List ℤ → Fault → Type 0
AreAllowed o s (fault.False note found) = ⊤
AreAllowed o s (fault.TooLarge x v) = ⊤
AreAllowed o s (fault.Blocked stands) = All (IsStand o s) stands.items

-- the whole explanation is right
pub record IsExplained (o : Program) (c : Condition) (s : List ℤ) (e : Explanation) : Type 0 where
  pub known : All (λ n. IsTrueNote o s (noted n.now)) e.known.items
  pub starts : e.starts ≡ true → HaveValues s o.vars o.aux_values
  pub test : IfSome e.test (TestIs o s)
  pub action : IfSome e.action (λ site. IsAction o c (statement_of site))
  pub after : e.after ≡ act (assignments c.action) s
  pub fault : IsFault o c s e.after e.fault
