use Rattle.std.proofs.Common.{◌≡◌, ◌++◌, Some, length, refl}
use Rattle.std.specs.Prelude.{slice_get}
use Rattle.std.proofs.lemmas.Option.{slice_get_read}
use Rattle.og_report_html.specs.Numbers.{number_links}
use Rattle.og_report_html.proofs.Steps.{number_goes}
use Rattle.og_report_html.proofs.numbers.put_number_links.Goals as goal

pub loop-index-preserved : goal.loop-index-preserved
loop-index-preserved c =
    let diagnoses = c.args.diagnoses.now in
    let i = c.loop-index.index in
    let t = c.index-diagnoses-index.result in
    let is : slice_get diagnoses i ≡ Some t = slice_get_read diagnoses (length diagnoses) i t refl c.loop-index-test.true c.index-diagnoses-index.is in
    number_goes c.args.finding i diagnoses t c.loop-index.text.items c.put_number_where.new.text.items (c.args.text.now.items ++ number_links c.args.finding 1 diagnoses) is c.in_ok-put_number_where.ensures c.loop-index.invariant
