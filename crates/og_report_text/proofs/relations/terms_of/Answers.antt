use Rattle.std.proofs.Common.{◌≡◌, ◌++◌, ◌∷◌, [], Some, rules, arith, sym, ◌∙◌}
use Rattle.std.specs.Prelude.{slice_get}
use Rattle.std.proofs.lemmas.Option.{slice_get_within}
use Rattle.og_report_text.proofs.Cuts.{term_more, term_end}
use Rattle.og_report_text.proofs.relations.terms_of.Goals as goal

pub loop-term-preserved : goal.loop-term-preserved
loop-term-preserved c =
    let ts = c.args.form.now.terms in
    let found : slice_get ts c.loop-term.i ≡ Some c.in-Some.term = sym c.term.ensures.found ∙ c.in-Some.is in
    let within = slice_get_within ts c.loop-term.i c.in-Some.term found in
    let pushed : c.push.new.self.items ≡ c.loop-term.terms.items ++ c.in-Some.term ∷ [] = search rules in
    record {
      inside = omega (arith, within);
      made = term_more c.loop-term.terms.items c.push.new.self.items ts c.loop-term.i c.in-Some.term found pushed c.loop-term.invariant.made;
    }

pub returns : goal.returns
returns c =
    term_end c.loop-term.terms.items c.args.form.now.terms c.loop-term.i (sym c.term.ensures.found ∙ c.in_default.is) c.loop-term.invariant.made
