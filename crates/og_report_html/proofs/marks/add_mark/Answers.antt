use Rattle.std.proofs.Common.{◌≡◌, rules}
use Rattle.og_report_html.specs.Marks.{found, joined}
use Rattle.og_report_html.proofs.Marking.{mark_added}
use Rattle.og_report_html.proofs.marks.add_mark.Goals as goal

pub returns : goal.returns
returns c =
    let is : c.joined-joined.result ≡ joined (found c.args.at c.args.marks.now) c.args.mark = search rules in
    mark_added c.args.marks.now c.insert.new.self c.args.at c.args.mark c.joined-joined.result is c.in_ok-insert.ensures.updates
