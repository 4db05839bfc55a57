use Rattle.std.proofs.Common.{◌≡◌, ◌++◌, drop, filter, map}
use Rattle.og_typed.specs.Erase.{is_kept}
use Rattle.og_typed.specs.Plain.{simple}
use Rattle.og_erase.proofs.erasing.body.Given as goal

abbrev pub invariant-loop-basic : goal.invariant-loop-basic
invariant-loop-basic l =
    map simple l.kept.items ++ filter (is_kept l.vars) (map simple (drop l.basic-index l.body)) ≡ filter (is_kept l.vars) (map simple l.body)
