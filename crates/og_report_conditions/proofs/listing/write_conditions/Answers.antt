use Rattle.std.proofs.Common.{ℕ, List, subst}
use Rattle.std.specs.Io.KnownBytes.{Appends}
use Rattle.og_cond.specs.Groups.{rest}
use Rattle.og_report_conditions.specs.Listings.{numbers_in, wanted_lines}
use Rattle.og_report_conditions.proofs.Loops.{whole}
use Rattle.og_io.specs.Written.{AppendsFront}
use Rattle.og_io.proofs.Passing.{failed, nothing_yet, made_front, whole_written, last_stopped}
use Rattle.og_report_conditions.proofs.listing.write_conditions.Goals as goal

pub returns-in_err-places-clause-unfinished : goal.returns-in_err-places-clause-unfinished
returns-in_err-places-clause-unfinished g c = failed _ _ (nothing_yet _ _)

pub returns-in_err-text-clause-unfinished : goal.returns-in_err-text-clause-unfinished
returns-in_err-text-clause-unfinished g c = failed _ _ (nothing_yet _ _)

pub returns-in_err-write_groups-clause-unfinished : goal.returns-in_err-write_groups-clause-unfinished
returns-in_err-write_groups-clause-unfinished g c =
    let is = whole c.args.form (numbers_in c.args.only) c.args.outline.now c.args.source.now _ _ _ _ c.in_ok-text.ensures c.names-names.ensures c.in_ok-places.ensures c.in-Ok.ensures.0 in
    failed _ _ (made_front _ _ _ _ is c.in_err-write_groups.ensures.unfinished)

pub returns-in_err-write_whole-clause-unfinished : goal.returns-in_err-write_whole-clause-unfinished
returns-in_err-write_whole-clause-unfinished g c =
    let is = whole c.args.form (numbers_in c.args.only) c.args.outline.now c.args.source.now _ _ _ _ c.in_ok-text.ensures c.names-names.ensures c.in_ok-places.ensures c.in-Ok.ensures.0 in
    let more = wanted_lines c.args.form (numbers_in c.args.only) c.names-names.result.now c.in_ok-places.places 1 (rest c.in-Ok.groups) in
    let last = subst (λ (t : List ℕ). AppendsFront (g.W.Write.contents c.write_groups.new.out) (g.W.Write.contents c.write_whole.new.out) t) c.deref.ensures.value c.in_err-write_whole.ensures.unfinished in
    failed _ _ (last_stopped _ _ _ c.in_ok-text.text.items _ more _ is c.in_ok-write_groups.ensures.written last)

pub returns-clause-written : goal.returns-clause-written
returns-clause-written g c =
    let is = whole c.args.form (numbers_in c.args.only) c.args.outline.now c.args.source.now _ _ _ _ c.in_ok-text.ensures c.names-names.ensures c.in_ok-places.ensures c.in-Ok.ensures.0 in
    let more = wanted_lines c.args.form (numbers_in c.args.only) c.names-names.result.now c.in_ok-places.places 1 (rest c.in-Ok.groups) in
    let last = subst (λ (t : List ℕ). Appends (g.W.Write.contents c.write_groups.new.out) (g.W.Write.contents c.write_whole.new.out) t) c.deref.ensures.value c.in_ok-write_whole.ensures.written in
    whole_written _ _ _ c.in_ok-text.text.items _ more _ is c.in_ok-write_groups.ensures.written last
