use Rattle.std.proofs.Common.{◌≡◌, ◌+◌}
use Rattle.og_cert.specs.Held.{facts_held}
use Rattle.og_cert.proofs.Lines.{parts_from, lines_from}
use Rattle.og_cert.proofs.replaying.+replay.Given as goal

abbrev pub invariant-replay_parts-loop-index : goal.invariant-replay_parts-loop-index
invariant-replay_parts-loop-index l =
    let fs = facts_held l.fn.held.items in
    record {
      kept : l.held.items ≡ l.fn.held.items;
      lines : l.next + lines_from l.index l.certs ≡ l.line + 1 + lines_from 0 l.certs;
      faults : parts_from l.index l.next l.line l.variables fs l.parts l.certs ≡ parts_from 0 (l.line + 1) l.line l.variables fs l.parts l.certs;
    }
