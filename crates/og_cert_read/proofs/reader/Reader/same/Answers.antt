use Rattle.std.proofs.Common.{ap, sym, vec_len, arith}
use Rattle.og_cert_text.specs.Shown.{shown}
use Rattle.og_cert_read.specs.Reader.{version_of, frames_of}
use Rattle.og_cert_read.specs.Reading.{same_as}
use Rattle.og_cert_read.proofs.Numbers.{differ}
use Rattle.og_cert_read.proofs.Taking.{bad_is, same_first, same_late, some_frames}
use Rattle.og_cert_read.proofs.reader.Reader.same.Goals as goal
use Rattle.og_cert_read.proofs.reader.Reader.same.Goals.{in-One, in_default, then-matches-via-then-matches, then-matches-via-else-matches+then-not-is_empty, then-matches-via-else-matches+else-not-is_empty+then-not-is_empty-2}

pub returns-then-matches : goal.returns-then-matches
returns-then-matches c =
    let v = version_of c.args.version in
    let done = shown c.args.self.now.file in
    let fs = frames_of c.args.self.now in
    bad_is c.bad_line.result c.args.at (same_as v done c.args.n fs c.args.k) c.bad_line.ensures
    (elim c.then-matches.branch [
      | then-matches-via-then-matches w ↦ same_first v done c.args.n fs c.args.k (elim c.match-matches.branch [ in-One u ↦ ap version_of u.in-One.is | in_default u ↦ cc (w.if-matches.true, u.matches-is) ])
      | then-matches-via-else-matches+then-not-is_empty w ↦ same_late v done c.args.n fs c.args.k (some_frames c.args.self.now.steps.items c.args.self.now.levels.items (let k = differ (vec_len c.args.self.now.steps) 0 (sym w.if-not-is_empty.ensures) in omega (arith, k, c.args.self.now.steps.ok.0)))
      | then-matches-via-else-matches+else-not-is_empty+then-not-is_empty-2 w ↦ same_late v done c.args.n fs c.args.k (some_frames c.args.self.now.steps.items c.args.self.now.levels.items (let k = differ (vec_len c.args.self.now.levels) 0 (sym w.if-not-is_empty-2.ensures) in omega (arith, k, c.args.self.now.levels.ok.0)))
    ])
