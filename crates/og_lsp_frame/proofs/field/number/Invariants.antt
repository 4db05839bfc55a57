use Rattle.std.proofs.Common.{◌≡◌, ◌≤◌, ◌^◌, drop}
use Rattle.og_text.specs.Lexemes.{value_of, value_from}
use Rattle.og_lsp_frame.proofs.field.number.Given as goal

abbrev pub invariant-loop-digit : goal.invariant-loop-digit
invariant-loop-digit l = record {
  so_far : value_from l.value (drop l.digit-index l.digits) ≡ value_of l.digits;
  small : l.value ≤ 2 ^ 24;
}
