use Rattle.std.proofs.Common.{◌≡◌, ◌++◌, length, ◌+◌}
use Rattle.og_template.specs.Mask.{masked_from, marks_from}
use Rattle.og_template.specs.declared.mask.Place.TheVariants.{Outside}
use Rattle.og_template.proofs.mask.Masked.of.Given as goal

abbrev pub invariant-bytes : goal.invariant-bytes
invariant-bytes l =
    (l.masked.items ++ masked_from l.place l.rest ≡ masked_from Outside l.text)
    × (l.marks.items ++ marks_from l.place l.at l.rest ≡ marks_from Outside 0 l.text)
    × (l.at + length l.rest ≡ length l.text)

abbrev pub decreases-bytes : goal.decreases-bytes
decreases-bytes l = length l.rest
