use Rattle.std.proofs.Common.{◌≡◌, [], ◌∷◌, ◌++◌, sym, ap, ◌∙◌, Some, arith}
use Rattle.std.proofs.lemmas.Grind.{common_steps}
use Rattle.og_facts.specs.declared.fact.Fact.TheViews as fact
use Rattle.og_facts.specs.Answer.{shown}
use Rattle.og_facts.proofs.Items.{pushed}
use Rattle.og_facts.proofs.Trees.{two_parts}
use Rattle.og_facts.proofs.walking.add_split.Goals as goal

pub returns : goal.returns
returns c =
    let v = c.push-2.new.self in
    let items : v.items ≡ c.args.first ∷ c.args.second ∷ [] = grind (arith, common_steps) in
    ap Some
    (ap (λ l. shown c.args.facts.now ++ l) (two_parts v c.args.first c.args.second items)
    ∙ sym (pushed c.args.facts.now.items c.push-3.new.self.items (fact.Split v) c.in_ok-push-3.ensures.items))
