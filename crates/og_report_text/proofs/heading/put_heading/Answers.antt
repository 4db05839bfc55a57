use Rattle.std.proofs.Common.{◌≡◌, ◌++◌, codes, rules}
use Rattle.std.specs.Prelude.{OnOk}
use Rattle.std.specs.Fmt.{decimal}
use Rattle.og_cond.specs.Names.{name_of_kind}
use Rattle.og_cond.specs.Seen.{seen}
use Rattle.og_report_text.specs.Listing.{places_text}
use Rattle.og_report_text.proofs.Joins.{joined, joined_three}
use Rattle.og_report_text.proofs.heading.put_heading.Goals as goal

pub returns : goal.returns
returns c =
    let r = c.put_places.result in
    let t0 = c.args.text.now.items in
    let t1 = c.put_number_between.new.text.items in
    let t2 = c.extend_from_slice.new.self.items in
    let kind = name_of_kind c.args.condition.now.kind in
    let e2 : t2 ≡ t1 ++ kind = search rules in
    let e3 : OnOk r (c.put_places.new.text.items ≡ t2 ++ places_text c.args.places.now (seen c.args.condition.now)) = search rules in
    joined_three r t0 t1 _ (codes "cond ") (decimal c.args.number) (codes " ") _ c.in_ok-put_number_between.ensures (joined r t1 t2 _ kind _ e2 e3)
