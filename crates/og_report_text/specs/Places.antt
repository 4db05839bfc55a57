-- Places in a source, as they are printed.
use Rattle.std.specs.Prelude.{ℕ, List, [], ◌++◌, Option, Some, None, codes}
use Rattle.std.specs.Fmt.{decimal}
use Rattle.og_text.specs.Place.{line_at, column_at}
use Rattle.og_report_text.specs.declared.places.Position.{Position}

-- one after the other
infixr 30 ◌&◌
abbrev pub ◌&◌ : List ℕ → List ℕ → List ℕ
xs & ys = xs ++ ys

abbrev pub position_of : List ℕ → ℕ → Position
position_of source at = record { line = line_at source at; column = column_at source at }

-- LINE:COLUMN
abbrev pub position_text : Position → List ℕ
position_text p = decimal p.line & codes ":" & decimal p.column

-- the place of an action, where there is one
abbrev pub with_text : List ℕ → Option ℕ → List ℕ
with_text source None = []
with_text source (Some at) = codes " with " & position_text (position_of source at)
