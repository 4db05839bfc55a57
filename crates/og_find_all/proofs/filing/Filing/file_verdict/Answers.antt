use Rattle.std.proofs.Common.{List}
use Rattle.og_cert_text.specs.Plain.{plain_cert}
use Rattle.og_cert_text.specs.Shown.{shown}
use Rattle.og_find.specs.declared.verdict.Verdict.{Verdict}
use Rattle.std.specs.Prelude.{slice_get}
use Rattle.std.proofs.Common.{◌≡◌, Some}
use Rattle.og_find_all.specs.Filing.{AreFiled, IsPut}
use Rattle.og_find_all.proofs.Filed.{on_ok, verdict_filed}
use Rattle.og_find_all.proofs.filing.Filing.file_verdict.Goals as goal

pub returns-in-Some : goal.returns-in-Some
returns-in-Some c =
    let own = c.args.self.now.own.now in
    let places = c.args.self.now.places.now in
    let before = shown c.args.file.now in
    let after = shown c.put.new.file in
    let first = c.in-Some.ensures in
    on_ok c.put.result (IsPut c.in-Some.number (plain_cert c.in-True.cert) before after)
    ((vs : List Verdict) → slice_get vs c.args.place ≡ Some c.args.verdict → AreFiled own places vs before → AreFiled own places vs after)
    (λ put vs there filed. verdict_filed own places vs c.in-Some.number c.args.place c.args.verdict c.in-True.cert before after c.in-True.is there first.0 first.1 put filed)
    c.put.ensures
