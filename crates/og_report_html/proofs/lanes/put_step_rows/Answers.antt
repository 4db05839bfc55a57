use Rattle.std.proofs.Common.{rules, ◌≤◌, ◌≡◌, ◌+◌, ◌++◌, Some, drop, length, refl}
use Rattle.std.specs.Prelude.{slice_get}
use Rattle.std.proofs.lemmas.Option.{slice_get_read}
use Rattle.og_report_html.specs.Lanes.{numbered, step_row}
use Rattle.og_report_html.proofs.Charts.{row_goes, rows_end}
use Rattle.og_report_html.proofs.lanes.put_step_rows.Goals as goal

pub loop-index-preserved : goal.loop-index-preserved
loop-index-preserved c =
    let frame = c.args.frame in
    let of = step_row frame.utf8 frame.names.now frame.source.now frame.lanes in
    let rows = c.args.rows.now in
    let i = c.loop-index.index in
    let row = c.index-rows-index.result in
    let is : slice_get rows i ≡ Some row = slice_get_read rows (length rows) i row refl c.loop-index-test.true c.index-rows-index.is in
    row_goes of i rows row c.loop-index.text.items c.put_step_row.new.text.items (c.args.text.now.items ++ numbered of (c.args.skipped + 1) (drop c.args.skipped rows)) is c.in_ok-put_step_row.ensures c.loop-index.invariant

pub returns : goal.returns
returns c =
    let frame = c.args.frame in
    let of = step_row frame.utf8 frame.names.now frame.source.now frame.lanes in
    let rows = c.args.rows.now in
    let past : length rows ≤ c.loop-index.index = search rules in
    rows_end of c.loop-index.index rows c.loop-index.text.items (c.args.text.now.items ++ numbered of (c.args.skipped + 1) (drop c.args.skipped rows)) past c.loop-index.invariant
