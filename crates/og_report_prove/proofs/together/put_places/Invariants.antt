use Rattle.std.proofs.Common.{◌≡◌, ◌++◌, drop}
use Rattle.og_report_prove.specs.Together.{places_key}
use Rattle.og_report_prove.proofs.together.put_places.Given as goal

abbrev pub invariant-loop-at : goal.invariant-loop-at
invariant-loop-at l = l.text.items ++ places_key (drop l.at-index l.places) ≡ l.initial.text.items ++ places_key l.places
