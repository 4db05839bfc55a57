-- Which assertion is false in a run, and where it stands.
use Rattle.std.specs.Prelude.{◌≡◌, ℕ, ℤ, Bool, true, ◌==◌, List, length, Option, Some, None, IfSome, ⊤}
use Rattle.og_typed.specs.Syntax.{Program}
use Rattle.og_typed.specs.Sites.{NoteSite, all_notes}
use Rattle.og_typed.specs.Seen.{IsOneOf}
use Rattle.og_typed.specs.declared.sites.Part.{Part}
use Rattle.og_typed.specs.declared.sites.Part.TheVariants as parts
use Rattle.og_violation.specs.Along.{IsFirst, IsTrueAlong}
use Rattle.og_violation.specs.declared.violation.Violation.{Violation}
use Rattle.og_violation.specs.declared.violation.Wrong.{Wrong}
use Rattle.og_violation.specs.declared.violation.Wrong.TheVariants as wrong
use Rattle.og_command_run.specs.Texts.{note_line}

-- the part is one of process p's; the main process, which has the number after the last, has two
abbrev pub is_of : ℕ → ℕ → Part → Bool
is_of main p parts.Prologue = p == main
is_of main p (parts.Process q) = p == q
is_of main p parts.Epilogue = p == main

-- an assertion of process p stands there
pub record IsAssertionPlace (o : Program) (p : ℕ) (at : ℕ) : Type 0 where
  pub site : NoteSite
  pub one : IsOneOf (all_notes o) site
  pub there : site.note.at ≡ at
  pub its : is_of (length o.processes) p site.part ≡ true

-- the place reported for a false assertion
abbrev pub IsPlaceOf : Program → Wrong → Option ℕ → Type 0
IsPlaceOf o (wrong.Assertion p) place = IfSome place (IsAssertionPlace o p)
IsPlaceOf o (wrong.Overflow p) place = ⊤
IsPlaceOf o wrong.Post place = place ≡ Some o.post.at
IsPlaceOf o wrong.Stuck place = ⊤

-- none where no assertion is false along the history; else the line of the first that is
abbrev pub IsNote : List ℕ → Program → List ℤ → List ℕ → Option (List ℕ) → Type 0
IsNote source o values history None = IsTrueAlong o values history
IsNote source o values history (Some line) =
    (v : Violation) × IsFirst o values history v × (place : Option ℕ) × IsPlaceOf o v.wrong place
    × (line ≡ note_line source (length o.processes) v.wrong place (length v.history.items))
