use Rattle.std.proofs.Common.{◌∙◌, List, map, length, ap, sym, arith}
use Rattle.std.proofs.lemmas.List.{length-map}
use Rattle.og_cond.specs.Seen.{seen}
use Rattle.og_report_findings.specs.Entries.{Entry, entry_of}
use Rattle.og_report_findings.specs.Causes.{shown}
use Rattle.og_report_findings.specs.Order.{in_order}
use Rattle.og_report_findings.proofs.Told.{ordered_few}
use Rattle.og_report_findings.proofs.reporting.items_of.Goals as goal

pub shown-requires : goal.shown-requires
shown-requires c =
    let f = c.args.findings in
    let cs = map seen f.conditions.now in
    let given = ap length c.deref-2.ensures.value in
    let mapped = length-map c.in_ok-ordered.ordered.items entry_of in
    let order = ap length c.in_ok-ordered.ensures in
    let from = ap (λ es. length (in_order (map entry_of es))) c.deref.ensures.value in
    let unproved = ap (λ es. length (in_order es)) c.in_ok-unproved.ensures in
    let most = ordered_few cs f.diagnoses.now f.runs.now (c.requires.each ∙ sym (length-map f.conditions.now seen)) (c.requires.run ∙ sym (length-map f.conditions.now seen)) in
    let few = c.requires.few in
    omega (arith, given, mapped, order, from, unproved, most, few)

pub returns : goal.returns
returns c =
    let rows = c.args.rows in
    c.in_ok-items.ensures
    ∙ ap (λ (es : List Entry). shown rows es) (ap (map entry_of) c.deref-2.ensures.value ∙ c.in_ok-ordered.ensures ∙ ap in_order (ap (map entry_of) c.deref.ensures.value ∙ c.in_ok-unproved.ensures))
