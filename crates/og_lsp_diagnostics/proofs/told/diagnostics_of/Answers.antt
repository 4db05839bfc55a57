use Rattle.std.proofs.Common.{◌∙◌, length, map, sym, ap, subst, arith}
use Rattle.std.specs.List.{AllByRecursion}
use Rattle.std.proofs.lemmas.List.{length-map}
use Rattle.og_cond.specs.Seen.{seen}
use Rattle.og_report_findings.specs.Causes.{groups_of, shown}
use Rattle.og_report_findings.specs.Entries.{entry_of}
use Rattle.og_lsp_diagnostics.specs.Said.{text_of, rows_of, HasSome}
use Rattle.og_lsp_diagnostics.proofs.Groups.{groups_some, unproved_few}
use Rattle.og_lsp_diagnostics.proofs.told.diagnostics_of.Goals as goal

pub grouped-requires-clause-few : goal.grouped-requires-clause-few
grouped-requires-clause-few c =
    let items = ap length c.deref-2.ensures.value in
    let mapped = length-map c.in_ok-entries.entries.items entry_of in
    let same = ap length c.in_ok-entries.ensures in
    let few = unproved_few 1 (map seen c.args.conditions.now) c.args.diagnoses.now c.deref.result.now in
    let limit = c.requires.few in
    omega (arith, items, mapped, same, few, limit)

pub of_groups-requires-clause-some : goal.of_groups-requires-clause-some
of_groups-requires-clause-some c =
    let page = c.args.teller.now.page in
    subst (AllByRecursion HasSome) (sym (ap groups_of c.deref-3.ensures.value ∙ c.in_ok-groups.ensures)) (groups_some page.names.now (text_of page) (rows_of page) (shown (rows_of page) (map entry_of c.deref-2.result.now)))
