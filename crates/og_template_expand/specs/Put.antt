-- Putting a sequence together from the left.
use Rattle.std.specs.Prelude.{List, [], ◌∷◌, ◌++◌, map, Ok}
use Rattle.og_parse.specs.Trees.{Note, Step}
use Rattle.og_parse.specs.TreeOf.{Item, item_of, note_of}
use Rattle.og_template_expand.specs.declared.prefix.Prefix.{Prefix}
use Rattle.og_template_expand.specs.Answer.{Checked, ◌>>=◌}

-- statements with the assertion before each, and the assertion after them
abbrev pub Front : Type 0
Front = List Item × Note

abbrev pub front_of : Prefix → Front
front_of prefix = (map item_of prefix.items.items, note_of prefix.last)

abbrev pub with_steps : Front → List Step → Front
with_steps front [] = front
with_steps front (s ∷ steps) =
    with_steps (
      front.0 ++ record { before = front.1; place = s.stmt.place; stmt = s.stmt.value } ∷ [],
      s.after,
    ) steps

-- steps after others
abbrev pub onto : Front → Checked (List Step) → Checked Front
onto front answer = answer >>= λ steps. Ok (with_steps front steps)
