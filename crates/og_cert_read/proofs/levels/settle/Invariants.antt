use Rattle.std.proofs.Common.{◌≤◌, List, Option, vec_len}
use Rattle.og_cert_text.specs.declared.cert.Cert.{Cert}
use Rattle.og_cert_read.specs.declared.levels.Level.{Level}
use Rattle.og_cert_read.specs.Levels.{IsSettled}
use Rattle.og_cert_read.proofs.levels.settle.Given as goal

-- what the levels and the certificate now settle to is what those at the start settle to
abbrev pub invariant-loop-level : goal.invariant-loop-level
invariant-loop-level l = record {
  settles : (new : List Level) (r : Option Cert) → IsSettled l.levels.items l.cert new r → IsSettled l.initial.levels.items l.initial.cert new r;
  fewer : vec_len l.levels ≤ vec_len l.initial.levels;
}

abbrev pub decreases-loop-level : goal.decreases-loop-level
decreases-loop-level l = vec_len l.levels
