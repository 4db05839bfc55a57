use Rattle.std.proofs.Common.{ap, map, arith}
use Rattle.std.proofs.lemmas.List.{drop_all}
use Rattle.og_cond.specs.Seen.{seen}
use Rattle.og_report_conditions.specs.Listings.{numbers_in, wanted_lines}
use Rattle.og_report_conditions.proofs.Loops.{first_wanted}
use Rattle.og_io.proofs.Passing.{failed, begun, goes_on, ended, stopped}
use Rattle.og_report_conditions.proofs.pieces.write_group.Goals as goal

pub loop-condition-init : goal.loop-condition-init
loop-condition-init g c = record { number = omega arith; passed = begun _ _ _ }

pub loop-condition-preserved : goal.loop-condition-preserved
loop-condition-preserved g c =
    let l = c.args.lines.now in
    let is = first_wanted l.form (numbers_in l.only) l.names.now l.places.now c.args.group.now c.loop-condition.condition-index c.loop-condition.number c.condition-item.result c.loop-condition-test.true c.condition-item.is in
    record { number = omega arith; passed = goes_on _ _ _ _ _ _ _ _ _ _ is c.loop-condition.invariant.passed c.in_ok-write_wanted.ensures.written }

pub returns-clause-written : goal.returns-clause-written
returns-clause-written g c =
    let l = c.args.lines.now in
    let none = drop_all c.loop-condition.condition-index c.args.group.now (omega arith) in
    ended _ _ _ _ _ _ (ap (λ cs. wanted_lines l.form (numbers_in l.only) l.names.now l.places.now c.loop-condition.number (map seen cs)) none) c.loop-condition.invariant.passed

pub returns-in_err-write_wanted-clause-unfinished : goal.returns-in_err-write_wanted-clause-unfinished
returns-in_err-write_wanted-clause-unfinished g c =
    let l = c.args.lines.now in
    let is = first_wanted l.form (numbers_in l.only) l.names.now l.places.now c.args.group.now c.loop-condition.condition-index c.loop-condition.number c.condition-item.result c.loop-condition-test.true c.condition-item.is in
    failed _ _ (stopped _ _ _ _ _ _ _ _ _ is c.loop-condition.invariant.passed c.in_err-write_wanted.ensures.unfinished)
