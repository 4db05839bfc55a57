use Rattle.std.proofs.Common.{◌≡◌, ◌++◌, map, drop}
use Rattle.og_typed.specs.Plain.{simple}
use Rattle.og_review_text.specs.Idioms.{moves_in}
use Rattle.og_review_text.specs.Seen.{moves_of}
use Rattle.og_review_text.proofs.idioms.moves_in.Given as goal

abbrev pub invariant-loop-basic : goal.invariant-loop-basic
invariant-loop-basic l = moves_of l.moves.items ++ moves_in l.count (map simple (drop l.basic-index l.body)) ≡ moves_in l.count (map simple l.body)
