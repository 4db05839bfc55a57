use Rattle.std.proofs.Common.{◌≡◌, ◌++◌, drop, map}
use Rattle.og_cert_text.specs.Tree.{cert_list}
use Rattle.og_cert_text.specs.Plain.{plain_cert}
use Rattle.og_cert_text.specs.Shallow.{certs_lines}
use Rattle.og_cert_text.specs.Listing.{lines_text}
use Rattle.og_cert_text.proofs.write.+put.Given as goal

abbrev pub invariant-put_finish-loop-part : goal.invariant-put_finish-loop-part
invariant-put_finish-loop-part l =
    l.text.items ++ lines_text (certs_lines (cert_list (map plain_cert (drop l.part-index l.part-items)))) ≡ l.initial.text.items ++ lines_text (certs_lines (cert_list (map plain_cert l.part-items)))
