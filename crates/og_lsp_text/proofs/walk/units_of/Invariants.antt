use Rattle.std.proofs.Common.{◌≡◌, ◌≤◌, ◌*◌, take}
use Rattle.std.specs.Prelude.{sum_by}
use Rattle.og_lsp_text.specs.Positions.{unit}
use Rattle.og_lsp_text.proofs.walk.units_of.Given as goal

abbrev pub invariant-loop-byte : goal.invariant-loop-byte
invariant-loop-byte l = record {
  counted : l.units ≡ sum_by (unit l.encoding) (take l.byte-index l.bytes);
  small : l.units ≤ l.byte-index * 2;
}
