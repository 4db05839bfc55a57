-- The lines of a certificate are as many as are written.
use Rattle.std.proofs.Common.{◌≡◌, length, refl, arith}
use Rattle.std.proofs.lemmas.List.{length-append}
use Rattle.og_cert_text.specs.Tree.{Cert, Sum, Cut, Close, Branch, SplitOn, Certs, no_cert, cert}
use Rattle.og_cert_text.specs.Shallow.{cert_lines, certs_lines}
use Rattle.og_cert.specs.Faults.{lines, lines_of}

mutual
  pub lines_written : (c : Cert) → lines c ≡ length (cert_lines c)
  lines_written (Sum ts c) = let h = lines_written c in omega (arith, h)
  lines_written (Cut i d c) = let h = lines_written c in omega (arith, h)
  lines_written (Close ts) = refl
  lines_written (Branch f c d) =
      let h = lines_written c in
      let k = lines_written d in
      omega (arith, h, k, length-append (cert_lines c) (cert_lines d))
  lines_written (SplitOn i cs) = let h = all_written cs in omega (arith, h)

  all_written : (cs : Certs) → lines_of cs ≡ length (certs_lines cs)
  all_written no_cert = refl
  all_written (cert c cs) =
      let h = lines_written c in
      let k = all_written cs in
      omega (arith, h, k, length-append (cert_lines c) (certs_lines cs))
