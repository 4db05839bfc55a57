use Rattle.std.proofs.Common.{◌≡◌, ◌+◌, ◌-◌, map, sym, ap, ◌∙◌, arith}
use Rattle.std.specs.Prelude.{option_map, slice_get}
use Rattle.std.proofs.lemmas.Option.{gets, slice_get-map}
use Rattle.og_facts.specs.Plain.{plain_fact}
use Rattle.og_facts.specs.Listed.{numbered}
use Rattle.og_facts.proofs.Numbers.{numbered_at}
use Rattle.og_facts.proofs.list.FactList.fact.Goals as goal

pub returns : goal.returns
returns c =
    let n = c.args.n in
    let items = c.self.inside.facts.items in
    let found : option_map (λ f. plain_fact f.now) c.get.result ≡ option_map plain_fact (slice_get items (n - 1)) = grind (arith, gets) in
    let whole : n ≡ (n - 1) + 1 = omega arith in
    found
    ∙ sym (slice_get-map plain_fact items (n - 1))
    ∙ sym (numbered_at n (n - 1) (map plain_fact items) whole)
    ∙ ap (λ l. numbered n l.facts) c.self.view_is
