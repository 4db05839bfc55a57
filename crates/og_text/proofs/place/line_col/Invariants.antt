use Rattle.std.proofs.Common.{◌≡◌, ◌≤◌, ◌+◌, take}
use Rattle.std.specs.Prelude.{count_by, not}
use Rattle.std.specs.List.{suffix_len}
use Rattle.og_text.specs.Place.{is_line_end}
use Rattle.og_text.proofs.place.line_col.Given as goal

abbrev pub invariant-loop-byte : goal.invariant-loop-byte
invariant-loop-byte l = record {
  line : l.line ≡ count_by is_line_end (take l.byte-index l.byte-items) + 1;
  column : l.column ≡ suffix_len (λ b. not (is_line_end b)) (take l.byte-index l.byte-items) + 1;
  line_small : l.line ≤ l.byte-index + 1;
  column_small : l.column ≤ l.byte-index + 1;
}
