use Rattle.std.proofs.Common.{◌≡◌, ◌<◌, ◌≤◌, ◌^◌, Some, rules, arith, sym, ◌∙◌}
use Rattle.std.specs.Prelude.{slice_get}
use Rattle.std.proofs.lemmas.Option.{slice_get_within}
use Rattle.og_facts.proofs.Atoms.{place_of_term, taken_turn}
use Rattle.og_facts.proofs.atom.Atom.form.Goals as goal

pub overflow_add-index : goal.overflow_add-index
overflow_add-index c =
    let f = c.args.self.now in
    let found : slice_get f.terms c.loop-term.index ≡ Some c.in-Some.term = sym c.term.ensures.found ∙ c.in-Some.is in
    let small : c.in-Some.term.0 < 2 ^ 32 = search rules in
    let least : c.loop-term.index ≤ c.in-Some.term.0 = place_of_term f.terms c.loop-term.index c.in-Some.term c.term.ensures.tidy found in
    search rules

pub loop-term-smaller : goal.loop-term-smaller
loop-term-smaller c =
    let f = c.args.self.now in
    let found : slice_get f.terms c.loop-term.index ≡ Some c.in-Some.term = sym c.term.ensures.found ∙ c.in-Some.is in
    let within = slice_get_within f.terms c.loop-term.index _ found in
    omega (arith, within)

pub loop-term-preserved : goal.loop-term-preserved
loop-term-preserved c =
    let f = c.args.self.now in
    let found : slice_get f.terms c.loop-term.index ≡ Some c.in-Some.term = sym c.term.ensures.found ∙ c.in-Some.is in
    let within = slice_get_within f.terms c.loop-term.index _ found in
    record {
      inside = omega (arith, within);
      made = taken_turn f.terms c.loop-term.terms.items c.push.new.self.items c.loop-term.index c.in-Some.term found c.loop-term.invariant.made c.in_ok-push.ensures.items;
    }
