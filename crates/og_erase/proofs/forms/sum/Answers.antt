use Rattle.std.proofs.Common.{◌≡◌, ◌<◌, ◌^◌, length, Some, rules, arith, sym, ◌∙◌}
use Rattle.std.specs.Prelude.{nat_abs, nat_le, nat_lt, slice_get}
use Rattle.std.specs.List.{list_all}
use Rattle.std.proofs.lemmas.Bool.{and_parts, leb-true, ltb-true}
use Rattle.std.proofs.lemmas.Option.{slice_get_within}
use Rattle.og_linear.specs.Linear.{is_small, fits_i64}
use Rattle.og_erase.proofs.Terms.{number_of_term, passed_at, term_turn}
use Rattle.og_erase.proofs.forms.sum.Goals as goal

pub term-requires-in-Some-clause-inside : goal.term-requires-in-Some-clause-inside
term-requires-in-Some-clause-inside c =
    let f = c.args.form.now in
    let n = length c.args.names.now in
    let found : slice_get f.terms c.loop-t.i ≡ Some c.in-Some.t = sym c.term.ensures.found ∙ c.in-Some.is in
    let usable = and_parts (is_small f) (list_all (λ t. nat_lt t.0 n) f.terms) c.requires in
    ltb-true c.in-Some.t.0 n (passed_at (λ t. nat_lt t.0 n) f.terms c.loop-t.i c.in-Some.t usable.1 found)

pub term-requires-in-Some-clause-small : goal.term-requires-in-Some-clause-small
term-requires-in-Some-clause-small c =
    let f = c.args.form.now in
    let n = length c.args.names.now in
    let found : slice_get f.terms c.loop-t.i ≡ Some c.in-Some.t = sym c.term.ensures.found ∙ c.in-Some.is in
    let usable = and_parts (is_small f) (list_all (λ t. nat_lt t.0 n) f.terms) c.requires in
    let small = and_parts (list_all (λ t. nat_le (nat_abs t.1) (2 ^ 31)) f.terms) (fits_i64 f.constant) usable.0 in
    leb-true (nat_abs c.in-Some.t.1) (2 ^ 31) (passed_at (λ t. nat_le (nat_abs t.1) (2 ^ 31)) f.terms c.loop-t.i c.in-Some.t small.0 found)

pub overflow_add-i : goal.overflow_add-i
overflow_add-i c =
    let found : slice_get c.args.form.now.terms c.loop-t.i ≡ Some c.in-Some.t = sym c.term.ensures.found ∙ c.in-Some.is in
    let small : c.in-Some.t.0 < 2 ^ 32 = search rules in
    let least = number_of_term c.args.form.now.terms c.loop-t.i c.in-Some.t c.term.ensures.tidy found in
    search rules

pub loop-t-smaller : goal.loop-t-smaller
loop-t-smaller c =
    let found : slice_get c.args.form.now.terms c.loop-t.i ≡ Some c.in-Some.t = sym c.term.ensures.found ∙ c.in-Some.is in
    let within = slice_get_within c.args.form.now.terms c.loop-t.i c.in-Some.t found in
    omega (arith, within)

pub loop-t-preserved : goal.loop-t-preserved
loop-t-preserved c =
    let found : slice_get c.args.form.now.terms c.loop-t.i ≡ Some c.in-Some.t = sym c.term.ensures.found ∙ c.in-Some.is in
    let within = slice_get_within c.args.form.now.terms c.loop-t.i c.in-Some.t found in
    record {
      inside = omega (arith, within);
      made = term_turn c.args.names.now c.loop-t.terms.items c.push.new.self.items c.in_ok-term.field-0 c.args.form.now.terms c.loop-t.i c.in-Some.t found c.in_ok-push.ensures.items c.in_ok-term.ensures c.loop-t.invariant.made;
    }
