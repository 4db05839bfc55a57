use Rattle.std.proofs.Common.{ℕ, List, ◌≡◌, ◌-◌, subst, arith, rules}
use Rattle.og_cert_text.specs.Shown.{shown}
use Rattle.og_find.specs.declared.verdict.Verdict.{Verdict}
use Rattle.og_find_all.specs.Filing.{AreFiled, IsAtPlace, IsShared}
use Rattle.og_find_all.proofs.Filed.{on_ok, shared_filed}
use Rattle.og_find_all.proofs.filing.Filing.file_shared.Goals as goal

pub returns : goal.returns
returns c =
    let own = c.args.self.now.own.now in
    let places = c.args.self.now.places.now in
    let before = shown c.args.file.now in
    let after = shown c.share.new.file in
    let n = c.in-Some-number_of.number in
    let k = c.in-Some-first.first in
    let place = c.in-Some.place.now in
    let here : IsAtPlace own places c.args.index place = c.is_at.ensures (search rules) in
    let number = c.in-Some-number_of.ensures in
    let back : c.args.index ≡ n - 1 = omega (arith, number) in
    let at = subst (λ (i : ℕ). IsAtPlace own places i place) back here in
    let first = c.in-Some-first.ensures in
    on_ok c.share.result (IsShared n k before after)
    ((vs : List Verdict) → AreFiled own places vs before → AreFiled own places vs after)
    (λ shared vs filed. shared_filed own places vs n k place before after (omega (arith, number)) at first.1 shared filed)
    c.share.ensures
