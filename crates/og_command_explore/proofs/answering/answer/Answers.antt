use Rattle.std.proofs.Common.{ap, ◌∙◌, arith}
use Rattle.std.proofs.lemmas.Bool.{both_ways}
use Rattle.og_report_explore.specs.declared.totals.Totals.{Totals}
use Rattle.og_report_text.specs.Subject.{subject_of}
use Rattle.og_command_explore.specs.Explored.{printed, status_of}
use Rattle.og_command_explore.proofs.answering.answer.Goals as goal

pub returns-then-has_no_start-clause-none : goal.returns-then-has_no_start-clause-none
returns-then-has_no_start-clause-none g c =
    let both = c.has_no_start.ensures.0 c.if-has_no_start.true in c.in_ok-found.ensures.no_start both.1 both.0

pub returns-clause-explored : goal.returns-clause-explored
returns-clause-explored g c =
    let reported = c.in_ok-reported.reported in
    let totals : Totals = record { starts = c.from.result; given = c.in_ok-ends.field-0; moments = c.from-2.result; ended = c.from-3.result; complete = reported.complete } in
    record {
      totals = totals;
      findings = reported.findings.items;
      given = c.in_ok-ends.ensures;
      begins = λ complete zero. both_ways c.has_no_start.result c.if-has_no_start.false (c.has_no_start.ensures.1 ((let from = c.from.ensures in omega (arith, from, zero)), c.in_ok-reported.ensures.complete complete));
      never_finished = λ complete zero. c.in_ok-found.ensures.never_finished (c.in_ok-reported.ensures.complete complete) (let from = c.from-3.ensures in omega (arith, from, zero));
      each = c.in_ok-reported.ensures.each;
      safe = λ said. (let parts = c.in_ok-reported.ensures.safe said in c.in_ok-found.ensures.sound parts.0 parts.1 parts.2 parts.3);
      unblocked = λ said. (let parts = c.in_ok-reported.ensures.unblocked said in c.in_ok-found.ensures.never_stuck parts.0 parts.1);
      reported = (
        c.in_ok-printed.ensures ∙ ap (printed c.args.request.json (subject_of c.args.subject.now) totals) c.deref.ensures.value,
        c.status_of.ensures ∙ ap (status_of totals) c.deref-2.ensures.value,
      );
    }
