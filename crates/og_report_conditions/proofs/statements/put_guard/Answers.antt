use Rattle.std.proofs.Common.{◌≡◌, ◌-◌, ◌++◌, length, map, Some, option_map, sym, ap, ◌∙◌}
use Rattle.std.specs.Prelude.{codes, slice_get}
use Rattle.std.specs.Option.{option_copied}
use Rattle.std.proofs.lemmas.Option.{slice_get-map}
use Rattle.og_cond.specs.Seen.{hypothesis_of}
use Rattle.og_report_conditions.specs.Triples.{hypothesis_text, guard_text}
use Rattle.og_report_conditions.proofs.Texts.{three}
use Rattle.og_report_conditions.proofs.statements.put_guard.Goals as goal

pub returns : goal.returns
returns c =
    let all = c.args.hypotheses.now in
    let names = c.args.names.now in
    let text = c.args.text.now.items in
    let here = hypothesis_of c.in-Some.guard.now in
    let last : slice_get all (length all - 1) ≡ Some c.in-Some.guard.now = sym c.last.ensures.value ∙ ap option_copied c.in-Some.is in
    let found : slice_get (map hypothesis_of all) (length all - 1) ≡ Some here = slice_get-map hypothesis_of all (length all - 1) ∙ ap (option_map hypothesis_of) last in
    three text c.extend_from_slice.new.self.items c.put_hypothesis.new.text.items c.extend_from_slice-2.new.self.items (codes "await ") (hypothesis_text names 0 here) (codes " then ")
    c.in_ok-extend_from_slice.ensures.items c.in_ok-put_hypothesis.ensures c.in_ok-extend_from_slice-2.ensures.items
    ∙ ap (λ o. text ++ guard_text names o) (sym found)
