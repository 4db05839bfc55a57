use Rattle.std.proofs.Common.{◌≡◌, ◌<◌, ℕ, false}
use Rattle.og_io.specs.Joined.{certs_at}
use Rattle.og_io.proofs.splitting.certs_start.Given as goal

abbrev pub invariant-loop-place : goal.invariant-loop-place
invariant-loop-place l = (place : ℕ) → place < l.place → certs_at l.input place ≡ false
