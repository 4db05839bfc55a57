use Rattle.std.proofs.Common.{◌≡◌, ◌≤◌, Some, filter, length, refl, rules}
use Rattle.std.specs.Prelude.{slice_get}
use Rattle.std.proofs.lemmas.Option.{slice_get_read}
use Rattle.og_report_findings.specs.Order.{is_open}
use Rattle.og_report_findings.specs.declared.entry.Entry.{Entry}
use Rattle.og_report_findings.proofs.Filtered.{chosen_goes, chosen_ends}
use Rattle.og_report_findings.proofs.order.open.Goals as goal

pub loop-index-preserved : goal.loop-index-preserved
loop-index-preserved c =
    let es = c.args.entries.now in
    let i = c.loop-index.index in
    let e = c.index-entries-index.result in
    let there : slice_get es i ≡ Some e = slice_get_read es (length es) i e refl c.loop-index-test.true c.index-entries-index.is in
    chosen_goes is_open es i e c.is_open.result c.loop-index.chosen.items c.add_if.new.chosen.items (filter (λ (x : Entry). is_open x.run.now) es) there c.is_open.ensures c.in_ok-add_if.ensures c.loop-index.invariant

pub returns : goal.returns
returns c =
    let es = c.args.entries.now in
    let past : length es ≤ c.loop-index.index = search rules in
    chosen_ends is_open es c.loop-index.index c.loop-index.chosen.items (filter (λ (x : Entry). is_open x.run.now) es) past c.loop-index.invariant
