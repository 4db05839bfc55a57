use Rattle.std.proofs.Common.{◌≡◌, ◌∙◌, ◌+◌, ◌++◌, [], refl, sym, length, map, ap, arith}
use Rattle.std.proofs.lemmas.List.{length-map}
use Rattle.og_cond.specs.Groups.{rest}
use Rattle.og_cond.specs.Seen.{seen}
use Rattle.og_report_conditions.specs.Listings.{numbers_in, wanted_lines}
use Rattle.og_report_conditions.proofs.Loops.{counted, wanted-append}
use Rattle.og_io.proofs.Passing.{failed, nothing_yet, begun, goes_on, ended, stopped}
use Rattle.og_report_conditions.proofs.pieces.write_groups.Goals as goal

pub loop-group-init : goal.loop-group-init
loop-group-init g c = record { count = refl; passed = begun _ _ _ }

pub loop-group-preserved : goal.loop-group-preserved
loop-group-preserved g c =
    let l = c.args.lines.now in
    let group = c.deref.result.now in
    let old = rest c.loop-group.groups in
    let new = rest c.next.new.self in
    let n = c.loop-group.number in
    let is : old ≡ map seen group ++ new = (rw c.in-Some.is at c.in_ok-group.ensures.next).0 ∙ ap (λ cs. map seen cs ++ new) (sym c.deref.ensures.value) in
    let all = counted old new group is in
    let mapped = length-map group seen in
    let same = ap length c.deref.ensures.value in
    let size : c.len.result ≡ length group = omega (arith, same, c.len.ensures, c.in-Some.group.ok.0) in
    let split = wanted-append l.form (numbers_in l.only) l.names.now l.places.now n (n + c.len.result) (map seen group) new (omega (arith, mapped, size)) in
    record {
      count = omega (arith, all, size, c.loop-group.invariant.count);
      passed = goes_on _ _ _ _ _ _ _ _ _ _ (ap (wanted_lines l.form (numbers_in l.only) l.names.now l.places.now n) is ∙ split) c.loop-group.invariant.passed c.in_ok-write_group.ensures.written;
    }

pub returns-clause-written : goal.returns-clause-written
returns-clause-written g c =
    let l = c.args.lines.now in
    let none = rw c.in_default.is at c.in_ok-group.ensures.next in
    ended _ _ _ _ _ _ (ap (wanted_lines l.form (numbers_in l.only) l.names.now l.places.now c.loop-group.number) none) c.loop-group.invariant.passed

pub returns-in_err-group-clause-unfinished : goal.returns-in_err-group-clause-unfinished
returns-in_err-group-clause-unfinished g c =
    let l = c.args.lines.now in
    let later = wanted_lines l.form (numbers_in l.only) l.names.now l.places.now c.loop-group.number (rest c.loop-group.groups) in
    failed _ _ (stopped _ _ _ _ _ _ later [] later refl c.loop-group.invariant.passed (nothing_yet _ _))

pub returns-in_err-write_group-clause-unfinished : goal.returns-in_err-write_group-clause-unfinished
returns-in_err-write_group-clause-unfinished g c =
    let l = c.args.lines.now in
    let group = c.deref.result.now in
    let old = rest c.loop-group.groups in
    let new = rest c.next.new.self in
    let n = c.loop-group.number in
    let is : old ≡ map seen group ++ new = (rw c.in-Some.is at c.in_ok-group.ensures.next).0 ∙ ap (λ cs. map seen cs ++ new) (sym c.deref.ensures.value) in
    let split = wanted-append l.form (numbers_in l.only) l.names.now l.places.now n (n + length (map seen group)) (map seen group) new refl in
    failed _ _ (stopped _ _ _ _ _ _ _ _ _ (ap (wanted_lines l.form (numbers_in l.only) l.names.now l.places.now n) is ∙ split) c.loop-group.invariant.passed c.in_err-write_group.ensures.unfinished)
