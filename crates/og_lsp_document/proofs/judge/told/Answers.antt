use Rattle.std.proofs.Common.{◌∙◌, map, arith}
use Rattle.std.proofs.lemmas.List.{length-map}
use Rattle.og_cond.specs.Seen.{seen}
use Rattle.og_lsp_document.proofs.Verdicts.{length_diagnosed}
use Rattle.og_lsp_document.proofs.judge.told.Goals as goal

pub diagnostics_of-requires-clause-each : goal.diagnostics_of-requires-clause-each
diagnostics_of-requires-clause-each c =
    length_diagnosed c.args.subject.now.outline.now (map seen c.args.conditions.now) c.args.diagnoses.now c.requires.are ∙ length-map c.args.conditions.now seen

pub diagnostics_of-requires-clause-few : goal.diagnostics_of-requires-clause-few
diagnostics_of-requires-clause-few c =
    let same = length_diagnosed c.args.subject.now.outline.now (map seen c.args.conditions.now) c.args.diagnoses.now c.requires.are ∙ length-map c.args.conditions.now seen in
    let few = c.requires.few in
    omega (arith, same, few)

pub counts_of-requires-clause-each : goal.counts_of-requires-clause-each
counts_of-requires-clause-each c =
    length_diagnosed c.args.subject.now.outline.now (map seen c.args.conditions.now) c.args.diagnoses.now c.requires.are ∙ length-map c.args.conditions.now seen

pub counts_of-requires-clause-few : goal.counts_of-requires-clause-few
counts_of-requires-clause-few c =
    let same = length_diagnosed c.args.subject.now.outline.now (map seen c.args.conditions.now) c.args.diagnoses.now c.requires.are ∙ length-map c.args.conditions.now seen in
    let few = c.requires.few in
    omega (arith, same, few)

pub returns-clause-within : goal.returns-clause-within
returns-clause-within c = record {
  diagnostics = c.in_ok-diagnostics.ensures.within;
  summary = c.summary_of-summary.ensures.lies;
  remarks = c.in_ok-remarks.ensures.within;
  parts = c.in_ok-counts.ensures.parts_lie;
  statements = c.in_ok-counts.ensures.statements_lie;
}
