use Rattle.std.proofs.Common.{◌≡◌, drop, map}
use Rattle.std.specs.List.{list_all}
use Rattle.og_cert_text.specs.Tree.{cert_list}
use Rattle.og_cert_text.specs.Plain.{plain_cert, plain_finish}
use Rattle.og_cert_text.specs.Lines.{is_line}
use Rattle.og_cert_text.specs.Shallow.{cert_lines, certs_lines}
use Rattle.og_cert_text.proofs.limits.+lines.Given as goal

abbrev pub invariant-is_finish-loop-part : goal.invariant-is_finish-loop-part
invariant-is_finish-loop-part l = list_all is_line (certs_lines (cert_list (map plain_cert (drop l.part-index l.part-items)))) ≡ list_all is_line (cert_lines (plain_finish l.finish))
