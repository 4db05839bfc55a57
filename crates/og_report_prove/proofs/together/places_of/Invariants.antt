use Rattle.std.proofs.Common.{◌≡◌, [], drop}
use Rattle.std.specs.Prelude.{option_map}
use Rattle.og_report_prove.specs.Together.{with_places}
use Rattle.og_report_prove.proofs.together.places_of.Given as goal

abbrev pub invariant-loop-number : goal.invariant-loop-number
invariant-loop-number l =
    with_places (option_map (λ r. r.now) l.row) l.places.items (drop l.number-index l.numbers) ≡ with_places (option_map (λ r. r.now) l.row) [] l.numbers
