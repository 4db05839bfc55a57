use Rattle.std.proofs.Common.{◌≡◌, ◌∙◌, true, map, ap, sym, subst}
use Rattle.og_cond.specs.Conditions.{conditions}
use Rattle.og_cond.specs.Seen.{seen}
use Rattle.og_report_prove.specs.Report.{is_unblocked}
use Rattle.og_report_prove.specs.Diagnosis.{AreDiagnoses}
use Rattle.og_command_prove.specs.Answer.{status_of}
use Rattle.og_command_prove.specs.Printed.{IsPrinted}
use Rattle.og_report_text.specs.Subject.{subject_of}
use Rattle.og_command_prove.proofs.Columns.{are_diagnosed}
use Rattle.og_command_prove.proofs.Concluded.{is_concluded, zero_where}
use Rattle.og_command_prove.proofs.Tables.{is_table}
use Rattle.og_command_prove.proofs.answering.answer_of.Goals as goal

pub status_of-status-requires : goal.status_of-status-requires
status_of-status-requires c =
    let o = c.args.subject.now.outline.now in
    let found = c.requires.found in
    subst (λ ts. AreDiagnoses o (conditions o) ts) (sym (c.deref.ensures.value ∙ ap (λ v. v.items) c.with_advice-table.ensures.diagnoses))
    (are_diagnosed o found.lists (conditions o) c.args.findings.diagnoses.items c.args.findings.runs.items found.found)

pub returns : goal.returns
returns c = λ runs asked.
    let form = c.args.form in
    let s = subject_of c.args.subject.now in
    let cs = conditions s.outline in
    let ts = c.args.findings.diagnoses.items in
    let said = c.args.findings.runs.items in
    let e = c.args.findings.explored in
    let text = c.in_ok-text.text.items in
    let table = c.with_advice-table.ensures in
    let told = ap (λ v. v.items) table.diagnoses in
    let diagnoses = c.deref.ensures.value ∙ told in
    let unblocked = λ (zero : c.status_of-status.result ≡ 0) (yes : is_unblocked ts ≡ true). c.status_of-status.ensures.unblocked zero (subst (λ ts. is_unblocked ts ≡ true) (sym diagnoses) yes) in
    let status = c.status_of-status.ensures.status ∙ ap status_of diagnoses in
    record {
      few = c.requires.few;
      diagnoses = ts;
      said = said;
      explored = e;
      asked = asked;
      found = c.requires.found;
      advice = c.args.advice.items;
      advised = c.requires.advised;
      in_form = c.requires.in_form;
      printed = subst (λ t. IsPrinted form s t text) (is_table cs ts said e c.args.advice.items c.with_advice-table.result (ap (λ v. map seen v.items) table.conditions ∙ c.requires.listed) told (ap (λ v. v.items) table.runs) table.explored (ap (λ v. v.items) table.advice)) c.in_ok-text.ensures.printed;
      status = status;
      sound = c.status_of-status.ensures.sound;
      unblocked = unblocked;
      says = λ says. subst (λ ts. is_unblocked ts ≡ true) told (c.in_ok-text.ensures.says says);
      verdict = is_concluded s.outline cs c.requires.found.lists ts e c.requires.found.explored (λ safe. c.status_of-status.ensures.sound (status ∙ zero_where ts safe)) (λ safe. unblocked (status ∙ zero_where ts safe));
    }
