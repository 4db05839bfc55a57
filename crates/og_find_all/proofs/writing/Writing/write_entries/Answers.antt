use Rattle.std.proofs.Common.{◌≡◌, ◌<◌, ◌-◌, [], vec_len, ap, arith}
use Rattle.og_find_all.specs.Texts.{lines_from}
use Rattle.og_find_all.proofs.Texts.{next_lines, no_more_lines}
use Rattle.og_io.proofs.Passing.{failed, held_back, goes_on, ended, stopped}
use Rattle.og_find_all.proofs.writing.Writing.write_entries.Goals as goal

pub loop-index-init : goal.loop-index-init
loop-index-init g c =
    let f = c.args.self.now.findings.now in
    let all : vec_len f.own - 0 ≡ vec_len f.own = omega arith in
    ([], ap (lines_from f 0) all, held_back _ _)

pub loop-index-preserved : goal.loop-index-preserved
loop-index-preserved g c =
    let f = c.args.self.now.findings.now in
    let below : c.loop-index.index < vec_len f.own = omega arith in
    goes_on _ _ _ _ _ _ _ _ _ _ (next_lines f c.loop-index.index (vec_len f.own) below) c.loop-index.invariant c.in_ok-write_entry.ensures.written

pub returns-clause-written : goal.returns-clause-written
returns-clause-written g c =
    let f = c.args.self.now.findings.now in
    ended _ _ _ _ _ _ (no_more_lines f c.loop-index.index (vec_len f.own) (omega arith)) c.loop-index.invariant

pub returns-in_err-write_entry-clause-unfinished : goal.returns-in_err-write_entry-clause-unfinished
returns-in_err-write_entry-clause-unfinished g c =
    let f = c.args.self.now.findings.now in
    let below : c.loop-index.index < vec_len f.own = omega arith in
    failed _ _ (stopped _ _ _ _ _ _ _ _ _ (next_lines f c.loop-index.index (vec_len f.own) below) c.loop-index.invariant c.in_err-write_entry.ensures.unfinished)
