use Rattle.std.proofs.Common.{◌≡◌, map, drop}
use Rattle.std.specs.List.{list_any}
use Rattle.og_typed.specs.Plain.{simple}
use Rattle.og_review_text.specs.Steps.{is_read_by}
use Rattle.og_review_text.proofs.steps.is_read_in.Given as goal

abbrev pub invariant-loop-basic : goal.invariant-loop-basic
invariant-loop-basic l = list_any (is_read_by l.var) (map simple (drop l.basic-index l.body)) ≡ list_any (is_read_by l.var) (map simple l.body)
