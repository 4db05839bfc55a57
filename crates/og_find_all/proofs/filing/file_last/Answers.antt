use Rattle.std.proofs.Common.{ℕ, List, Option, ◌≡◌, Some, rules}
use Rattle.std.specs.Prelude.{slice_get}
use Rattle.std.specs.Global.{Box}
use Rattle.og_cert_text.specs.Plain.{plain_cert}
use Rattle.og_cert_text.specs.Shown.{shown}
use Rattle.og_find.specs.declared.verdict.Verdict.{Verdict}
use Rattle.og_find.specs.declared.verdict.Verdict.TheVariants as verdicts
use Rattle.og_find_all.specs.Filing.{AreFiled, IsPut}
use Rattle.og_find_all.proofs.Filed.{on_ok, own_filed}
use Rattle.og_find_all.proofs.filing.file_last.Goals as goal

pub returns-in-Some-number_of : goal.returns-in-Some-number_of
returns-in-Some-number_of c =
    let before = shown c.args.file.now in
    let after = shown c.put.new.file in
    let is : c.in-Some.own.value ≡ verdicts.True c.in-True.cert = search rules in
    on_ok c.put.result (IsPut c.in-Some-number_of.number (plain_cert c.in-True.cert) before after)
    ((own : List (Option (Box Verdict))) (places : List ℕ) (vs : List Verdict) → slice_get own c.args.index ≡ Some c.args.last → AreFiled own places vs before → AreFiled own places vs after)
    (λ put own places vs there filed. own_filed own places vs c.in-Some-number_of.number c.args.index c.args.last c.in-Some.own c.in-True.cert before after c.in-Some.is is there c.in-Some-number_of.ensures put filed)
    c.put.ensures
