use Rattle.std.proofs.Common.{◌≡◌, ◌++◌, codes, rules}
use Rattle.std.specs.Prelude.{OnOk}
use Rattle.std.specs.Fmt.{decimal}
use Rattle.og_report_text.specs.Seen.{formulas_of}
use Rattle.og_report_prove.specs.Effects.{together}
use Rattle.og_report_text.proofs.Joins.{joined, joined_three}
use Rattle.og_report_prove.proofs.earlier.put_alike.Goals as goal

pub returns : goal.returns
returns c =
    let r = c.extend_from_slice.result in
    let t0 = c.args.text.now.items in
    let t1 = c.put_number_between.new.text.items in
    let t2 = c.put_together.new.text.items in
    let a4 = together c.args.names.now (formulas_of c.args.found.now) in
    let e2 : t2 ≡ t1 ++ a4 = search rules in
    let e3 : OnOk r (c.extend_from_slice.new.self.items ≡ t2 ++ codes "\n") = search rules in
    joined_three r t0 t1 _ (codes "  as condition ") (decimal c.args.k) (codes ": ") _ c.in_ok-put_number_between.ensures (joined r t1 t2 _ a4 _ e2 e3)
