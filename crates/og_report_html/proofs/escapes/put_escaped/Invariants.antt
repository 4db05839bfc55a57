use Rattle.std.proofs.Common.{◌≡◌, ◌++◌, drop}
use Rattle.og_report_html.specs.Escapes.{escaped_text}
use Rattle.og_report_html.proofs.escapes.put_escaped.Given as goal

abbrev pub invariant-loop-byte : goal.invariant-loop-byte
invariant-loop-byte l = l.text.items ++ escaped_text l.utf8 (drop l.byte-index l.bytes) ≡ l.initial.text.items ++ escaped_text l.utf8 l.bytes
