use Rattle.std.proofs.Common.{◌≡◌, ◌+◌, drop, map}
use Rattle.og_cert_text.specs.Tree.{cert_list}
use Rattle.og_cert_text.specs.Plain.{plain_cert}
use Rattle.og_cert_text.specs.Shallow.{is_shallow, are_shallow}
use Rattle.og_cert_text.proofs.limits.+is_shallow.Given as goal

abbrev pub invariant-loop-part : goal.invariant-loop-part
invariant-loop-part l = are_shallow (l.depth + 1) (cert_list (map plain_cert (drop l.part-index l.part-items))) ≡ is_shallow l.depth (plain_cert l.cert)
