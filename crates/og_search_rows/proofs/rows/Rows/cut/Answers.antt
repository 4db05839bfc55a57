use Rattle.og_search_rows.proofs.Cuts.{row_of_cut}
use Rattle.og_search_rows.proofs.rows.Rows.cut.Goals as goal

pub returns-in_ok-part-in-Some-clause-row : goal.returns-in_ok-part-in-Some-clause-row
returns-in_ok-part-in-Some-clause-row c =
    let divided = rw c.in-Some.is at c.in_ok-form.ensures in
    row_of_cut c.args.self.now.rows c.push.new.self.rows c.args.row c.in_ok-part-in-Some.part c.in-Some.form c.form-2.result.now
    c.in_ok-part-in-Some.ensures.row divided c.form-2.ensures
