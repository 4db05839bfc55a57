use Rattle.og_search_rows.proofs.Following.{false_everywhere}
use Rattle.og_search_rows.proofs.rows.Rows.push_contradiction.Goals as goal

pub returns-clause-contradiction : goal.returns-clause-contradiction
returns-clause-contradiction c = λ s proper facts.
    false_everywhere c.args.form s c.requires.terms c.requires.above ((c.in_ok-row.ensures.row.1 s).0 (c.in_ok-row.ensures.follow c.in_ok-row.row s proper facts))
