use Rattle.std.proofs.Common.{◌≡◌, ◌<◌, ◌+◌, ◌-◌, length, vec_len, ap, arith, subst}
use Rattle.og_cond.specs.Counting.{Leaves}
use Rattle.og_find_all.specs.Findings.{verdict_of}
use Rattle.og_find_all.specs.Texts.{certificate_in, entry_lines, lines_from}
use Rattle.og_find_all.proofs.Texts.{next_length}
use Rattle.og_find_all.proofs.writing.Writing.room_after_entries.Goals as goal

pub loop-index-init : goal.loop-index-init
loop-index-init c =
    let f = c.args.self.now.findings.now in
    let all : vec_len f.own - 0 ≡ vec_len f.own = omega arith in
    let same = ap (λ n. length (lines_from f 0 n)) all in
    omega (arith, same)

pub returns-in-None : goal.returns-in-None
returns-in-None c =
    let f = c.args.self.now.findings.now in
    let i = c.loop-index.index in
    let entry = length (entry_lines (i + 1) (certificate_in (verdict_of f i))) in
    let short : c.loop-index.left < entry = subst (Leaves c.loop-index.left entry) c.in-None.is c.in_ok-less.ensures in
    let lt : i < vec_len f.own = omega (arith, c.loop-index-test.true, c.len-index-end.ensures) in
    let next = next_length f i (vec_len f.own) lt in
    let all = c.loop-index.invariant in
    omega (arith, short, next, all)

pub loop-index-preserved : goal.loop-index-preserved
loop-index-preserved c =
    let f = c.args.self.now.findings.now in
    let i = c.loop-index.index in
    let entry = length (entry_lines (i + 1) (certificate_in (verdict_of f i))) in
    let left = subst (Leaves c.loop-index.left entry) c.in-Some.is c.in_ok-less.ensures in
    let lt : i < vec_len f.own = omega (arith, c.loop-index-test.true, c.len-index-end.ensures) in
    let next = next_length f i (vec_len f.own) lt in
    let all = c.loop-index.invariant in
    omega (arith, left, next, all)
