use Rattle.std.proofs.Common.{◌≡◌, drop}
use Rattle.og_cert_read.specs.Words.{after}
use Rattle.og_cert_read.proofs.words.after.Given as goal

-- the rest after the rest of the front is the rest of the text after the front
abbrev pub invariant-loop-p : goal.invariant-loop-p
invariant-loop-p l = after (drop l.p-index l.front) l.rest ≡ after l.front l.text
