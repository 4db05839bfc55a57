use Rattle.std.proofs.Common.{◌≡◌, ◌++◌, map, drop, length}
use Rattle.og_cert_text.specs.Plain.{plain_cert}
use Rattle.og_cert_text.specs.Shallow.{cert_lines}
use Rattle.og_cert_text.specs.Listing.{lines_text}
use Rattle.og_cert_text.proofs.write.all_lines.Given as goal

abbrev pub invariant-loop-cert : goal.invariant-loop-cert
invariant-loop-cert l = record {
  lines : map (λ lines. lines.items) l.all.items ++ map (λ c. lines_text (cert_lines (plain_cert c))) (drop l.cert-index l.certs) ≡ map (λ c. lines_text (cert_lines (plain_cert c))) l.certs;
  len : length l.all.items ≡ l.cert-index;
}
