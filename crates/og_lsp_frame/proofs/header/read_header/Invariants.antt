use Rattle.std.proofs.Common.{◌≡◌, ◌-◌, None}
use Rattle.og_lsp_frame.specs.Front.{header_from}
use Rattle.og_lsp_frame.proofs.header.read_header.Given as goal

abbrev pub invariant-loop : goal.invariant-loop
invariant-loop l = header_from (l.lines - l.counter) l.length l.rest ≡ header_from l.lines None l.bytes
