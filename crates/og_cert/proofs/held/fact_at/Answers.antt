use Rattle.std.proofs.Common.{◌≡◌, ◌+◌, ◌-◌, sym, ◌∙◌, arith}
use Rattle.std.specs.Prelude.{option_map, slice_get}
use Rattle.std.proofs.lemmas.Option.{gets, slice_get-map}
use Rattle.og_facts.proofs.Numbers.{numbered_at}
use Rattle.og_cert.specs.Held.{held_fact, facts_held}
use Rattle.og_cert.proofs.Holding.{looked_up}
use Rattle.og_cert.proofs.held.fact_at.Goals as goal

pub returns : goal.returns
returns c =
    let n = c.args.number in
    let held = c.args.held.now in
    let found : option_map (λ h. held_fact h.now) c.get.result ≡ option_map held_fact (slice_get held (n - 1)) = grind (arith, gets) in
    let whole : n ≡ (n - 1) + 1 = omega arith in
    rw c.ok_or.ensures.value
    (looked_up c.get.result (facts_held held) n (found ∙ sym (slice_get-map held_fact held (n - 1)) ∙ sym (numbered_at n (n - 1) (facts_held held) whole)))
